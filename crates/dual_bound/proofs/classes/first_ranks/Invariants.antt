use Rattle.std.proofs.Common.{◌≡◌, ℕ, ◌<◌, ◌≤◌}
use Rattle.std.specs.Prelude.{slice_index}
use Rattle.dual_bound.specs.Kept.{AreRanks, IsKept}
use Rattle.dual_bound.proofs.classes.first_ranks.Given as goal

abbrev pub invariant-loop-resource : goal.invariant-loop-resource
invariant-loop-resource l = record {
  ranks_are : AreRanks l.resource l.ranks.items;
  last : slice_index l.ranks.items l.resource ≡ l.rank;
  few : l.rank ≤ l.resource;
  kept : (r : ℕ) → r < l.resource → slice_index l.firsts r ≡ r → IsKept l.ranks.items r;
}
