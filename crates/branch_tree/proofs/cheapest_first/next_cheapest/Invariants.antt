use Rattle.branch_tree.specs.Loops.{IsNextBelow}
use Rattle.branch_tree.proofs.cheapest_first.next_cheapest.Given as goal

abbrev pub invariant-loop-alt : goal.invariant-loop-alt
invariant-loop-alt l = IsNextBelow l.problem l.unit l.after l.alt l.next
