use Rattle.std.proofs.Common.{◌≡◌, ℕ, ◌*◌, ◌<◌, ◌≤◌, length, slice_index}
use Rattle.finite_sums.specs.Sums.{sum_below, least_within}
use Rattle.choice_problem.specs.Problems.{alt_uses, resource_count}
use Rattle.choice_problem.specs.Bounds.{low_of, high_of, whole_of}
use Rattle.window_counts.specs.Placed.{AreZero}
use Rattle.report_lines.proofs.least.add_units.Given as goal

abbrev pub invariant-loop-unit : goal.invariant-loop-unit
invariant-loop-unit l = record {
  zeros : AreZero l.counts;
  counts : length l.counts ≡ resource_count l.problem;
  loads : length l.loads ≡ resource_count l.problem;
  sums : (r : ℕ) → r < resource_count l.problem →
      slice_index l.loads r ≡ sum_below l.unit (λ (u : ℕ). least_within (low_of (whole_of l.problem) u) (high_of (whole_of l.problem) u) (λ (alt : ℕ). alt_uses l.problem u alt r));
  few : (r : ℕ) → r < resource_count l.problem → slice_index l.loads r ≤ l.unit * 434;
}
