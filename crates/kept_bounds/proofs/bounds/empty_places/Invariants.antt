use Rattle.std.proofs.Common.{◌≡◌, ◌+◌, ℕ, length, get_or, None}
use Rattle.kept_bounds.proofs.bounds.empty_places.Given as goal

abbrev pub invariant-loop : goal.invariant-loop
invariant-loop g l = record {
  count : length l.places.items ≡ l.counter + 1;
  none : (i : ℕ) → get_or l.places.items i None ≡ None;
}
