use Rattle.std.proofs.Common.{◌≡◌, ℕ, ◌+◌, refl, subst, arith}
use Rattle.std.specs.Prelude.{if◌then◌else◌}
use Rattle.finite_sums.specs.Sums.{sum_below}
use Rattle.finite_sums.proofs.SumLemmas.{sum_below-more}
use Rattle.choice_problem.specs.Strips.{is_in_run}
use Rattle.choice_problem.specs.Loops.{run_uses}
use Rattle.dual_bound.specs.Kept.{AreAtLeast}
use Rattle.dual_bound.proofs.CountLemmas.{AreAtLeast-same}
use Rattle.dual_bound.proofs.counts.count_strip.Goals as goal

pub loop-run-init : goal.loop-run-init
loop-run-init c = record {
  counted = λ uses h. AreAtLeast-same c.args.counts.now uses (λ r. uses r + sum_below 0 (λ i. if is_in_run c.args.strip.now r i then 1 else 0)) (λ r. omega arith) h;
  raised = λ r l. omega arith;
}

pub loop-run-preserved : goal.loop-run-preserved
loop-run-preserved c =
    let s = c.args.strip.now in
    let run = c.loop-run.run in
    let start = c.run-start.result.0 in
    let end = c.run-start.result.1 in
    let here : (r : ℕ) → run_uses start end r ≡ (if is_in_run s r run then 1 else 0) = λ r. rw (c.run-start.ensures.start, c.run-start.ensures.end) refl in
    record {
      counted = λ uses h.
          AreAtLeast-same c.count_run.new.counts (λ r. (uses r + sum_below run (λ i. if is_in_run s r i then 1 else 0)) + run_uses start end r)
          (λ r. uses r + sum_below (run + 1) (λ i. if is_in_run s r i then 1 else 0))
          (λ r. omega (arith, here r, sum_below-more run (λ i. if is_in_run s r i then 1 else 0)))
          (c.count_run.ensures.counted (λ r. uses r + sum_below run (λ i. if is_in_run s r i then 1 else 0)) (c.loop-run.invariant.counted uses h));
      raised = λ r l. omega (arith, c.loop-run.invariant.raised r l, c.count_run.ensures.raised r (omega (arith, l, c.loop-run.auto)));
    }

pub returns-clause-counted : goal.returns-clause-counted
returns-clause-counted c = λ uses h.
    let s = c.args.strip.now in
    let all : c.loop-run.run ≡ s.times = omega (arith, c.loop-run-test.false, c.loop-run.auto.run-end) in
    subst (λ n. AreAtLeast c.loop-run.counts (λ r. uses r + sum_below n (λ i. if is_in_run s r i then 1 else 0))) all (c.loop-run.invariant.counted uses h)
