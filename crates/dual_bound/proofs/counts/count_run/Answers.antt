use Rattle.std.proofs.Common.{◌≡◌, ◌+◌, ◌<◌, ◌^◌, ◌-◌, min, subst, arith, length}
use Rattle.std.specs.Prelude.{slice_index}
use Rattle.choice_problem.specs.Loops.{run_uses}
use Rattle.dual_bound.specs.Kept.{AreAtLeast}
use Rattle.dual_bound.proofs.CountLemmas.{AreAtLeast-start, AreAtLeast-more, AreRaised-set}
use Rattle.dual_bound.proofs.counts.count_run.Goals as goal

pub loop-at-init : goal.loop-at-init
loop-at-init c = record {
  counted = λ uses h. AreAtLeast-start c.args.start uses c.args.counts.now h;
  raised = λ r l. omega arith;
}

pub loop-at-preserved : goal.loop-at-preserved
loop-at-preserved c =
    let counts = c.loop-at.counts in
    let at = c.loop-at.at in
    let count = c.one_more.result in
    let within : at < length counts = omega (arith, c.loop-at-test.true, c.loop-at.auto, c.requires.within, c.requires.ordered) in
    let is : count ≡ min (slice_index counts at + 1) (2 ^ 32 - 1) = c.one_more.ensures.value in
    record {
      counted = λ uses h. AreAtLeast-more c.args.start at count uses counts c.loop-at.auto.at within is (c.loop-at.invariant.counted uses h);
      raised = AreRaised-set c.args.counts.now counts at count c.loop-at.invariant.raised within c.one_more.ensures.raised;
    }

pub returns-clause-counted : goal.returns-clause-counted
returns-clause-counted c = λ uses h.
    let all : c.loop-at.at ≡ c.args.end = omega (arith, c.loop-at-test.false, c.loop-at.auto.at-end c.requires.ordered) in
    subst (λ e. AreAtLeast c.loop-at.counts (λ r. uses r + run_uses c.args.start e r)) all (c.loop-at.invariant.counted uses h)
