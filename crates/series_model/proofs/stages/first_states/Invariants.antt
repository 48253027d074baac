use Rattle.std.proofs.Common.{◌≡◌, map, take}
use Rattle.series_model.specs.Stages.{first_state}
use Rattle.series_model.proofs.stages.first_states.Given as goal

abbrev pub invariant-loop-unit : goal.invariant-loop-unit
invariant-loop-unit l = l.states.items ≡ map first_state (take l.unit-index l.units)
