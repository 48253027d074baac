use Rattle.std.proofs.Common.{◌≡◌, ℕ, ◌<◌, [], true, length}
use Rattle.std.specs.Prelude.{slice_index, slice_index_or}
use Rattle.price_table.specs.Private.Few.{capped_priced}
use Rattle.price_table.specs.Private.Named.{is_named}
use Rattle.price_table.proofs.few.looked_up.Given as goal

abbrev pub invariant-loop-place : goal.invariant-loop-place
invariant-loop-place l = record {
  count : length l.parts.items ≡ l.place;
  each : (k : ℕ) → k < l.place → is_named l.named.items k ≡ true → slice_index l.parts.items k ≡ capped_priced l.prices (slice_index_or l.items k []);
}
