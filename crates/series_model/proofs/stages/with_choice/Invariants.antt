use Rattle.std.proofs.Common.{◌≡◌, ◌++◌, ◌≤◌, drop, length}
use Rattle.series_model.specs.Stages.{after_allotment, stage_times}
use Rattle.series_model.proofs.stages.with_choice.Given as goal

-- what is still to come completes the list
abbrev pub invariant-loop-state : goal.invariant-loop-state
invariant-loop-state l = record {
  within : l.next ≤ length l.numbers;
  whole : l.after.items ++ after_allotment l.stage (drop l.state-index l.states) (stage_times l.declaration l.stage (drop l.state-index l.states) (drop l.next l.numbers))
      ≡ after_allotment l.stage l.states (stage_times l.declaration l.stage l.states l.numbers);
}
