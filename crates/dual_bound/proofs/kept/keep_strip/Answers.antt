use Rattle.std.proofs.Common.{◌≡◌, ℕ, ◌+◌, ◌<◌, ◌≤◌, refl, arith}
use Rattle.std.specs.Prelude.{slice_index, if◌then◌else◌}
use Rattle.finite_sums.specs.Sums.{sum_below}
use Rattle.finite_sums.proofs.SumLemmas.{sum_below-more}
use Rattle.choice_problem.specs.Strips.{part_uses, is_in_run}
use Rattle.choice_problem.specs.Loops.{run_uses}
use Rattle.choice_problem.specs.Problems.{resource_count}
use Rattle.dual_bound.specs.Kept.{IsKept, kept_count}
use Rattle.dual_bound.proofs.RankLemmas.{rank-le, run_uses-kept}
use Rattle.dual_bound.proofs.kept.keep_strip.Goals as goal

pub loop-run-preserved : goal.loop-run-preserved
loop-run-preserved c =
    let p = c.args.problem.now in
    let ranks = c.args.ranks.now in
    let s = c.args.strip.now in
    let run = c.loop-run.run in
    let start = c.run-start.result.0 in
    let end = c.run-start.result.1 in
    let last : end ≤ resource_count p = omega (arith, c.run-start.ensures.end, c.requires.strip run c.loop-run-test.true) in
    let begin : start ≤ resource_count p = omega (arith, c.run-start.ensures.start, c.run-start.ensures.end, last) in
    let each : (r : ℕ) → r < resource_count p → IsKept ranks r →
    part_uses c.keep_run.new.strips.items (slice_index ranks r)
    ≡ part_uses c.args.strips.now.items (slice_index ranks r) + sum_below (run + 1) (λ i. if is_in_run s r i then 1 else 0) =
    λ r l b.
    let new = c.in_ok-keep_run.ensures.uses (slice_index ranks r) in
    let same = run_uses-kept (resource_count p) ranks start end r c.requires.ranks l b begin last in
    let here : run_uses start end r ≡ (if is_in_run s r run then 1 else 0) = rw (c.run-start.ensures.start, c.run-start.ensures.end) refl in
    omega (arith, new, same, here, c.loop-run.invariant.uses r l b, sum_below-more run (λ i. if is_in_run s r i then 1 else 0)) in
    record {
      uses = each;
      there = c.in_ok-keep_run.ensures.there (kept_count p ranks) (rank-le (resource_count p) ranks end (resource_count p) c.requires.ranks last (omega arith)) c.loop-run.invariant.there;
    }
