use Rattle.std.proofs.Common.{◌≡◌, ◌⊎◌, take}
use Rattle.std.specs.Prelude.{All, Contains}
use Rattle.choice_problem.specs.declared.nodes.Node.{Node}
use Rattle.choice_problem.specs.Named.{Names, NamesUpTo}
use Rattle.choice_problem.proofs.nodes.greatest_named.Given as goal

abbrev pub invariant-loop-node : goal.invariant-loop-node
invariant-loop-node l = record {
  most : All (NamesUpTo l.most) (take l.node-index l.tree);
  named : (l.most ≡ 0) ⊎ ((leaf : Node) × Contains l.tree leaf × Names l.most leaf);
}
