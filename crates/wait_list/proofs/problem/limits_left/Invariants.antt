use Rattle.std.proofs.Common.{◌≡◌, ◌<◌, ◌≤◌, ℕ, length}
use Rattle.std.specs.Prelude.{All, slice_index}
use Rattle.season_days.specs.declared.declaration.TheConstants.{HIGHEST_NIGHT_LIMIT}
use Rattle.holding_book.specs.Left.{left_of}
use Rattle.wait_list.proofs.problem.limits_left.Given as goal

abbrev pub invariant-loop-resource : goal.invariant-loop-resource
invariant-loop-resource l = record {
  count : length l.limits.items ≡ l.resource;
  each : (r : ℕ) → r < l.resource → slice_index l.limits.items r ≡ left_of l.book.book r;
  few : All (λ n. n ≤ HIGHEST_NIGHT_LIMIT) l.limits.items;
}
