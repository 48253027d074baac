use Rattle.std.proofs.Common.{◌≡◌, ℕ, ◌+◌, ◌<◌}
use Rattle.std.specs.Prelude.{slice_index, if◌then◌else◌}
use Rattle.finite_sums.specs.Sums.{sum_below}
use Rattle.choice_problem.specs.Strips.{part_uses, is_in_run, IsPartInRange}
use Rattle.choice_problem.specs.Problems.{resource_count}
use Rattle.dual_bound.specs.Kept.{IsKept, kept_count}
use Rattle.dual_bound.proofs.kept.keep_strip.Given as goal

abbrev pub invariant-loop-run : goal.invariant-loop-run
invariant-loop-run l = record {
  uses : (r : ℕ) → r < resource_count l.problem → IsKept l.ranks r →
      part_uses l.strips.items (slice_index l.ranks r)
      ≡ part_uses l.fn.strips.items (slice_index l.ranks r) + sum_below l.run (λ i. if is_in_run l.strip r i then 1 else 0);
  there : IsPartInRange (kept_count l.problem l.ranks) l.strips.items;
}
