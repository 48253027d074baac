use Rattle.std.proofs.Common.{◌≡◌, ℕ, ◌<◌, length}
use Rattle.std.specs.Prelude.{slice_index}
use Rattle.dual_bound.proofs.classes.classes_of.Given as goal

abbrev pub invariant-loop-first : goal.invariant-loop-first
invariant-loop-first l = record {
  count : length l.classes.items ≡ l.first-index;
  each : (r : ℕ) → r < l.first-index → slice_index l.classes.items r ≡ slice_index l.ranks (slice_index l.firsts r);
}
