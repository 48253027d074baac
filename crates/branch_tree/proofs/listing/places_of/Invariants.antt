use Rattle.std.proofs.Common.{◌≡◌, ℕ, length, take}
use Rattle.branch_tree.specs.Lists.{times_in, AreWithin}
use Rattle.branch_tree.specs.Runs.{times_held}
use Rattle.branch_tree.proofs.listing.places_of.Given as goal

abbrev pub invariant-loop-run : goal.invariant-loop-run
invariant-loop-run l = record {
  places : (i : ℕ) → times_in l.list.items i ≡ times_held (take l.run-index l.runs) i;
  within : AreWithin (length l.listed) l.list.items;
}
