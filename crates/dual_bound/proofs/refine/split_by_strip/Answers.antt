use Rattle.std.proofs.Common.{◌≡◌, ℕ, ◌+◌, length, refl, subst, arith}
use Rattle.std.specs.Prelude.{if◌then◌else◌}
use Rattle.finite_sums.specs.Sums.{sum_below}
use Rattle.finite_sums.proofs.SumLemmas.{sum_below-more}
use Rattle.choice_problem.specs.Strips.{is_in_run}
use Rattle.choice_problem.specs.Loops.{run_uses}
use Rattle.dual_bound.specs.Classes.{AreSplitBy}
use Rattle.dual_bound.proofs.RefineLemmas.{AreSplitBy-start, AreSplitBy-then}
use Rattle.dual_bound.proofs.refine.split_by_strip.Goals as goal

pub loop-run-init : goal.loop-run-init
loop-run-init c = AreSplitBy-start c.args.part (length c.args.classes.now) c.args.classes.now c.args.splits.now.items
    (λ r. sum_below 0 (λ i. if is_in_run c.args.strip.now r i then 1 else 0)) c.requires.split (λ r. refl)

pub split_by_run-requires-clause-split : goal.split_by_run-requires-clause-split
split_by_run-requires-clause-split c = rw c.loop-run.auto.classes c.loop-run.invariant.split

pub loop-run-preserved : goal.loop-run-preserved
loop-run-preserved c =
    let s = c.args.strip.now in
    let run = c.loop-run.run in
    let start = c.run-start.result.0 in
    let end = c.run-start.result.1 in
    let here : (r : ℕ) → run_uses start end r ≡ (if is_in_run s r run then 1 else 0) = λ r. rw (c.run-start.ensures.start, c.run-start.ensures.end) refl in
    let n = length c.args.classes.now in
    AreSplitBy-then c.args.part n c.args.classes.now c.args.splits.now.items c.loop-run.classes c.loop-run.splits.items c.split_by_run.new.classes c.split_by_run.new.splits.items
    (λ r. sum_below run (λ i. if is_in_run s r i then 1 else 0)) (λ r. run_uses start end r) (λ r. sum_below (run + 1) (λ i. if is_in_run s r i then 1 else 0))
    (λ r. omega (arith, here r, sum_below-more run (λ i. if is_in_run s r i then 1 else 0))) c.loop-run.invariant (rw c.loop-run.auto.classes at c.in_ok-split_by_run.ensures)

pub returns : goal.returns
returns c =
    let s = c.args.strip.now in
    let all : c.loop-run.run ≡ s.times = omega (arith, c.loop-run-test.false, c.loop-run.auto.run-end) in
    subst (λ n. AreSplitBy c.args.part (length c.args.classes.now) c.args.classes.now c.args.splits.now.items c.loop-run.classes c.loop-run.splits.items
    (λ r. sum_below n (λ i. if is_in_run s r i then 1 else 0))) all c.loop-run.invariant
