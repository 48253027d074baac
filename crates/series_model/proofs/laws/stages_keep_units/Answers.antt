use Rattle.series_model.proofs.StageLemmas.{keep_units}
use Rattle.series_model.proofs.laws.stages_keep_units.Goals as goal

pub returns : goal.returns
returns c = keep_units
