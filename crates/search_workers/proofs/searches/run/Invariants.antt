use Rattle.std.proofs.Common.{◌≡◌, ◌≤◌, ◌-◌}
use Rattle.choice_problem.specs.Trees.{node_count}
use Rattle.incumbent_word.specs.Core.{AtMost}
use Rattle.search_workers.specs.Rounds.{AreSoFarJoined}
use Rattle.search_workers.specs.Settings.{IsWider}
use Rattle.search_workers.specs.Work.{IsSoFar}
use Rattle.search_workers.proofs.searches.run.Given as goal

abbrev pub invariant-loop-taken : goal.invariant-loop-taken
invariant-loop-taken g l = record {
  wider : IsWider l.initial.task l.task;
  so_far : IsSoFar l.task l.state.cost l.state.best l.state.tree.items;
  count : node_count l.state.tree.items ≡ l.taken;
  within : l.taken ≤ l.budget;
  fell : AtMost l.state.cost l.fn.state.cost;
  joined : AreSoFarJoined l.initial.task.problem l.budget l.taken l.initial.task.vectors l.task.vectors;
}

abbrev pub decreases-loop-taken : goal.decreases-loop-taken
decreases-loop-taken g l = l.budget - l.taken
