use Rattle.series_model.proofs.MovementLemmas.{movement_load}
use Rattle.series_model.proofs.laws.movement_loads.Goals as goal

pub returns : goal.returns
returns c = movement_load
