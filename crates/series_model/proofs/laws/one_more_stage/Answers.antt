use Rattle.series_model.proofs.StepLemmas.{states-one}
use Rattle.series_model.proofs.laws.one_more_stage.Goals as goal

pub returns : goal.returns
returns c = states-one
