use Rattle.std.proofs.Common.{◌+◌, ◌≤◌, List, length, take, subst, arith}
use Rattle.std.specs.Prelude.{slice_index}
use Rattle.std.proofs.lemmas.List.{take_all}
use Rattle.std.proofs.lemmas.List.Sums.{sum_by_more}
use Rattle.choice_problem.specs.Strips.{strip_uses}
use Rattle.dual_bound.specs.declared.covers.Held.{Held}
use Rattle.dual_bound.specs.Kept.{AreAtLeast}
use Rattle.dual_bound.specs.Covers.{cover_uses, held_at}
use Rattle.dual_bound.proofs.CountLemmas.{AreAtLeast-same}
use Rattle.dual_bound.proofs.CoverLemmas.{none}
use Rattle.dual_bound.proofs.counts.count_cover.Goals as goal

pub loop-held-preserved : goal.loop-held-preserved
loop-held-preserved c =
    let cover : List Held = c.args.cover.now in
    let i = c.loop-held.held-index in
    let old = c.args.counts.now in
    record {
      counted = AreAtLeast-same c.count_strip.new.counts (λ r. (slice_index old r + cover_uses (take i cover) r) + strip_uses (held_at cover i).strip r)
          (λ r. slice_index old r + cover_uses (take (i + 1) cover) r)
          (λ r. omega (arith, sum_by_more (λ (h : Held). strip_uses h.strip r) cover i none c.loop-held-test.true))
          (c.count_strip.ensures.counted (λ r. slice_index old r + cover_uses (take i cover) r) c.loop-held.invariant.counted);
      raised = λ r l. omega (arith, c.loop-held.invariant.raised r l, c.count_strip.ensures.raised r (omega (arith, l, c.loop-held.auto)));
    }

pub returns-clause-counted : goal.returns-clause-counted
returns-clause-counted c =
    let cover : List Held = c.args.cover.now in
    let all : length cover ≤ c.loop-held.held-index = omega (arith, c.loop-held-test.false) in
    subst (λ (held : List Held). AreAtLeast c.loop-held.counts (λ r. slice_index c.args.counts.now r + cover_uses held r)) (take_all c.loop-held.held-index cover all) c.loop-held.invariant.counted
