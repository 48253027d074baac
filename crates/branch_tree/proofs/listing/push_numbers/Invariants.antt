use Rattle.std.proofs.Common.{◌≡◌, ℕ, ◌+◌, length}
use Rattle.choice_problem.specs.Loops.{run_uses}
use Rattle.branch_tree.specs.Lists.{times_in, AreWithin}
use Rattle.branch_tree.proofs.listing.push_numbers.Given as goal

abbrev pub invariant-loop-at : goal.invariant-loop-at
invariant-loop-at l = record {
  uses : (r : ℕ) → times_in l.list.items r ≡ times_in l.fn.list.items r + run_uses l.from l.at r;
  within : AreWithin (length l.listed) l.list.items;
}
