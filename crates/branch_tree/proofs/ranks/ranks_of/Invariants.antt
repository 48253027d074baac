use Rattle.std.proofs.Common.{◌≡◌, ℕ, ◌<◌, ◌≤◌, length, slice_index}
use Rattle.branch_tree.specs.Lists.{IsRankAt}
use Rattle.branch_tree.proofs.ranks.ranks_of.Given as goal

abbrev pub invariant-loop-resource : goal.invariant-loop-resource
invariant-loop-resource l = record {
  counted : length l.ranks.items ≡ l.resource;
  few : l.rank ≤ l.resource;
  each : (r : ℕ) → r < l.resource → IsRankAt l.listed r (slice_index l.ranks.items r);
  next : IsRankAt l.listed l.resource l.rank;
}
