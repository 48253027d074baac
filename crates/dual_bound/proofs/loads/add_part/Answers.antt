use Rattle.std.proofs.Common.{◌≡◌, ◌≤◌, ◌+◌, ◌∙◌, List, length, take, subst, arith}
use Rattle.std.specs.Prelude.{slice_index_or}
use Rattle.std.proofs.lemmas.List.{take_all}
use Rattle.std.proofs.lemmas.List.Sums.{sum_by_more, sum_by_more_le}
use Rattle.choice_problem.specs.declared.strips.Strip.{Strip}
use Rattle.choice_problem.specs.Strips.{strip_uses, part_uses}
use Rattle.dual_bound.specs.Ends.{AreEnds}
use Rattle.dual_bound.proofs.EndLemmas.{AreEnds-same}
use Rattle.dual_bound.proofs.loads.add_part.Goals as goal

abbrev none : Strip
none = record { first = 0; width = 0; gap = 0; times = 0 }

pub loop-strip-init : goal.loop-strip-init
loop-strip-init c = λ n uses h room.
    let strips : List Strip = c.strips-strip-items.result.now in
    AreEnds-same n uses (λ r. uses r + part_uses (take 0 strips) r) c.args.begins.now c.args.ends.now (λ r. omega arith) h

pub loop-strip-preserved : goal.loop-strip-preserved
loop-strip-preserved c = λ n uses h room.
    let strips : List Strip = c.strips-strip-items.result.now in
    let i = c.loop-strip.strip-index in
    AreEnds-same n (λ r. (uses r + part_uses (take i strips) r) + strip_uses (slice_index_or strips i none) r)
    (λ r. uses r + part_uses (take (i + 1) strips) r) c.add_strip.new.begins c.add_strip.new.ends
    (λ r. omega (arith, sum_by_more (λ (s : Strip). strip_uses s r) strips i none c.loop-strip-test.true))
    (c.add_strip.ensures n (λ r. uses r + part_uses (take i strips) r) (c.loop-strip.invariant n uses h room)
    (λ r l. omega (arith, room r l, sum_by_more_le (λ (s : Strip). strip_uses s r) strips i none c.loop-strip-test.true)))

pub returns : goal.returns
returns c = λ n uses h room.
    let strips : List Strip = c.strips-strip-items.result.now in
    let all : length strips ≤ c.loop-strip.strip-index = omega (arith, c.loop-strip-test.false) in
    let whole : strips ≡ c.args.part.now = c.strips-strip-items.ensures in
    let same : take c.loop-strip.strip-index strips ≡ c.args.part.now = take_all c.loop-strip.strip-index strips all ∙ whole in
    subst (λ (part : List Strip). AreEnds n (λ r. uses r + part_uses part r) c.loop-strip.begins c.loop-strip.ends) same
    (c.loop-strip.invariant n uses h (λ r l. rw whole (room r l)))
