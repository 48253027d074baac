use Rattle.std.proofs.Common.{◌≡◌, ℕ, ◌<◌, slice_index}
use Rattle.std.specs.Option.{ForSome}
use Rattle.choice_problem.specs.Problems.{alt_count}
use Rattle.choice_problem.specs.Greedy.{FitsOn}
use Rattle.branch_tree.specs.Loops.{AreFrom, still_to_try}
use Rattle.branch_tree.proofs.greedy_start.place_cheapest.Given as goal

abbrev pub invariant-loop-next : goal.invariant-loop-next
invariant-loop-next l = record {
  same : l.counts ≡ l.fn.counts;
  there : ForSome l.next (λ a. a < alt_count l.problem l.unit);
  tried : (b : ℕ) → b < alt_count l.problem l.unit → FitsOn l.problem (λ r. slice_index l.fn.counts r) l.unit b → AreFrom l.problem l.unit l.next b;
}

abbrev pub decreases-loop-next : goal.decreases-loop-next
decreases-loop-next l = still_to_try l.problem l.unit l.next
