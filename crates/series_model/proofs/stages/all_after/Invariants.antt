use Rattle.std.proofs.Common.{◌≡◌, ◌+◌, drop, length}
use Rattle.series_model.specs.Stages.{first_states, after_stages}
use Rattle.series_model.specs.Stages.{AreFitting}
use Rattle.series_model.proofs.stages.all_after.Given as goal

abbrev pub invariant-loop-choice : goal.invariant-loop-choice
invariant-loop-choice l = record {
  stage : l.stage ≡ l.choice-index + 1;
  whole : after_stages l.declaration l.stage l.states.items (drop l.choice-index l.choices) ≡ after_stages l.declaration 1 (first_states l.units) l.choices;
  fit : AreFitting l.declaration l.states.items;
  count : length l.states.items ≡ length l.units;
}
