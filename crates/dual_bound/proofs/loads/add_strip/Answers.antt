use Rattle.std.proofs.Common.{◌≡◌, ℕ, ◌+◌, refl, subst, arith}
use Rattle.std.specs.Prelude.{if◌then◌else◌}
use Rattle.finite_sums.specs.Sums.{sum_below}
use Rattle.finite_sums.proofs.SumLemmas.{sum_below-more, sum_below-more_le}
use Rattle.choice_problem.specs.Strips.{is_in_run}
use Rattle.choice_problem.specs.Loops.{run_uses}
use Rattle.dual_bound.specs.Ends.{AreEnds}
use Rattle.dual_bound.proofs.EndLemmas.{AreEnds-same}
use Rattle.dual_bound.proofs.loads.add_strip.Goals as goal

pub loop-run-init : goal.loop-run-init
loop-run-init c = λ n uses h room.
    AreEnds-same n uses (λ r. uses r + sum_below 0 (λ i. if is_in_run c.args.strip.now r i then 1 else 0)) c.args.begins.now c.args.ends.now (λ r. omega arith) h

pub loop-run-preserved : goal.loop-run-preserved
loop-run-preserved c = λ n uses h room.
    let s = c.args.strip.now in
    let run = c.loop-run.run in
    let start = c.run-start.result.0 in
    let end = c.run-start.result.1 in
    let here : (r : ℕ) → run_uses start end r ≡ (if is_in_run s r run then 1 else 0) = λ r. rw (c.run-start.ensures.start, c.run-start.ensures.end) refl in
    AreEnds-same n (λ r. (uses r + sum_below run (λ i. if is_in_run s r i then 1 else 0)) + run_uses start end r)
    (λ r. uses r + sum_below (run + 1) (λ i. if is_in_run s r i then 1 else 0)) c.add_run.new.begins c.add_run.new.ends
    (λ r. omega (arith, here r, sum_below-more run (λ i. if is_in_run s r i then 1 else 0)))
    (c.add_run.ensures n (λ r. uses r + sum_below run (λ i. if is_in_run s r i then 1 else 0)) (c.loop-run.invariant n uses h room)
    (λ r l. omega (arith, here r, room r l, sum_below-more_le s.times run (λ i. if is_in_run s r i then 1 else 0) c.loop-run-test.true)))

pub returns : goal.returns
returns c = λ n uses h room.
    let s = c.args.strip.now in
    let all : c.loop-run.run ≡ s.times = omega (arith, c.loop-run-test.false, c.loop-run.auto.run-end) in
    subst (λ m. AreEnds n (λ r. uses r + sum_below m (λ i. if is_in_run s r i then 1 else 0)) c.loop-run.begins c.loop-run.ends) all (c.loop-run.invariant n uses h room)
