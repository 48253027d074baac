use Rattle.std.proofs.Common.{◌+◌, ◌≤◌, List, length, take, refl, subst, arith}
use Rattle.std.specs.Prelude.{slice_index_or}
use Rattle.std.proofs.lemmas.List.{take_all}
use Rattle.std.proofs.lemmas.List.Sums.{sum_by_more}
use Rattle.choice_problem.specs.declared.strips.Strip.{Strip}
use Rattle.choice_problem.specs.Strips.{strip_uses, part_uses}
use Rattle.dual_bound.specs.Classes.{AreSplitBy}
use Rattle.dual_bound.proofs.RefineLemmas.{AreSplitBy-start, AreSplitBy-then}
use Rattle.dual_bound.proofs.refine.split_by_strips.Goals as goal

abbrev none : Strip
none = record { first = 0; width = 0; gap = 0; times = 0 }

pub loop-strip-init : goal.loop-strip-init
loop-strip-init c =
    let strips : List Strip = c.args.strips.now in
    AreSplitBy-start c.args.part (length c.args.classes.now) c.args.classes.now c.args.splits.now.items (λ r. part_uses (take 0 strips) r) c.requires.split (λ r. refl)

pub split_by_strip-requires-clause-split : goal.split_by_strip-requires-clause-split
split_by_strip-requires-clause-split c = rw c.loop-strip.auto.classes c.loop-strip.invariant.split

pub loop-strip-preserved : goal.loop-strip-preserved
loop-strip-preserved c =
    let strips : List Strip = c.args.strips.now in
    let i = c.loop-strip.strip-index in
    let n = length c.args.classes.now in
    AreSplitBy-then c.args.part n c.args.classes.now c.args.splits.now.items c.loop-strip.classes c.loop-strip.splits.items c.split_by_strip.new.classes c.split_by_strip.new.splits.items
    (λ r. part_uses (take i strips) r) (λ r. strip_uses (slice_index_or strips i none) r) (λ r. part_uses (take (i + 1) strips) r)
    (λ r. omega (arith, sum_by_more (λ (s : Strip). strip_uses s r) strips i none c.loop-strip-test.true)) c.loop-strip.invariant
    (rw c.loop-strip.auto.classes at c.in_ok-split_by_strip.ensures)

pub returns : goal.returns
returns c =
    let strips : List Strip = c.args.strips.now in
    let all : length strips ≤ c.loop-strip.strip-index = omega (arith, c.loop-strip-test.false) in
    subst (λ (part : List Strip). AreSplitBy c.args.part (length c.args.classes.now) c.args.classes.now c.args.splits.now.items c.loop-strip.classes c.loop-strip.splits.items
    (λ r. part_uses part r)) (take_all c.loop-strip.strip-index strips all) c.loop-strip.invariant
