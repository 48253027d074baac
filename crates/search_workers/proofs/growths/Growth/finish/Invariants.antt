use Rattle.std.proofs.Common.{◌≡◌, ◌++◌, replicate}
use Rattle.choice_problem.specs.declared.nodes.Node.TheVariants.{Undone}
use Rattle.search_workers.proofs.growths.Growth.finish.Given as goal

abbrev pub invariant-loop : goal.invariant-loop
invariant-loop l = l.all.items ≡ l.initial.all.items ++ replicate l.counter Undone
