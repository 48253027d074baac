use Rattle.std.proofs.Common.{◌≡◌, ◌<◌, ℕ, length, get_or, None}
use Rattle.cert_checker.proofs.kept_loads.empty_places.Given as goal

abbrev pub invariant-loop : goal.invariant-loop
invariant-loop l = record {
  some : 0 < length l.kept.items;
  none : (i : ℕ) → get_or l.kept.items i None ≡ None;
}
