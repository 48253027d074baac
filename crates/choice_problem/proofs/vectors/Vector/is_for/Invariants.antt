use Rattle.std.proofs.Common.{ℕ, ◌<◌, ◌≤◌}
use Rattle.choice_problem.specs.Bounds.{price_at, IsPrice}
use Rattle.choice_problem.proofs.vectors.Vector.is_for.Given as goal

-- `next` is the least number above the resources so far
abbrev pub invariant-loop-entry : goal.invariant-loop-entry
invariant-loop-entry l = record {
  rising : (i j : ℕ) → i < j → j < l.entry-index → (price_at l.entry-items i).resource < (price_at l.entry-items j).resource;
  each : (i : ℕ) → i < l.entry-index → IsPrice l.problem (price_at l.entry-items i);
  below : (i : ℕ) → i < l.entry-index → (price_at l.entry-items i).resource < l.next;
  least : (n : ℕ) → ((i : ℕ) → i < l.entry-index → (price_at l.entry-items i).resource < n) → l.next ≤ n;
}
