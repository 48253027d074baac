use Rattle.std.proofs.Common.{◌≡◌, ℕ, ◌<◌, [], length}
use Rattle.std.specs.Prelude.{slice_index_or, All}
use Rattle.choice_problem.specs.Problems.{ArePartsInRange, chooser_at}
use Rattle.dual_bound.specs.Kept.{IsUnitOnKept, kept_count}
use Rattle.dual_bound.proofs.kept.kept_units.Given as goal

abbrev pub invariant-loop-unit : goal.invariant-loop-unit
invariant-loop-unit l = record {
  count : length l.units.items ≡ l.unit;
  each : (u : ℕ) → u < l.unit → IsUnitOnKept l.problem l.ranks (chooser_at l.problem u) (slice_index_or l.units.items u (record { parts = []; alts = [] }));
  there : All (ArePartsInRange (kept_count l.problem l.ranks)) l.units.items;
}
