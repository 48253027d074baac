use Rattle.std.proofs.Common.{◌≡◌, ℕ, ◌<◌, ◌≤◌, [], length}
use Rattle.std.specs.Prelude.{slice_index_or, slice_set}
use Rattle.price_table.specs.Tables.{vectors_of}
use Rattle.price_table.specs.Totals.{AreTotalsFor, totals_at}
use Rattle.price_table.proofs.totals.set_kept.Given as goal

abbrev pub invariant-loop-place : goal.invariant-loop-place
invariant-loop-place l = record {
  count : length l.totals ≡ length (vectors_of l.tables);
  each : (k : ℕ) → k < length (vectors_of l.tables) → AreTotalsFor l.problem (slice_index_or (vectors_of l.tables) k []) (totals_at l.totals k);
  set : (k : ℕ) → k < l.place → (totals_at l.totals k).ranges ≡ slice_set l.ranges l.unit (l.low, l.high);
  rest : (k : ℕ) → k < length (vectors_of l.tables) → l.place ≤ k → (totals_at l.totals k).ranges ≡ l.ranges;
  at_scale : (k : ℕ) → k < length (vectors_of l.tables) → (totals_at l.totals k).scale ≡ 1024;
}
