use Rattle.std.proofs.Common.{◌≡◌, ◌∷◌, [], length}
use Rattle.std.specs.Prelude.{All}
use Rattle.choice_problem.specs.declared.nodes.Node.TheVariants.{Undone}
use Rattle.search_workers.proofs.trees.undone_trees.Given as goal

abbrev pub invariant-loop : goal.invariant-loop
invariant-loop l = record {
  count : length l.trees.items ≡ l.counter;
  each : All (λ t. t.items ≡ Undone ∷ []) l.trees.items;
}
