use Rattle.std.proofs.Common.{◌≡◌, ◌≤◌, List, length, take}
use Rattle.std.specs.Prelude.{sum_by}
use Rattle.choice_problem.specs.declared.vectors.Price.{Price}
use Rattle.tested_trees.proofs.found.are_few_prices.Given as goal

abbrev pub invariant-loop-vector : goal.invariant-loop-vector
invariant-loop-vector l = record {
  sum : l.count ≡ sum_by (λ (prices : List Price). length prices) (take l.vector-index l.vectors);
  few : l.count ≤ 1000000;
}
