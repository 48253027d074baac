use Rattle.series_model.proofs.TimedLemmas.{options_spelled}
use Rattle.series_model.proofs.laws.spelled_alternatives.Goals as goal

pub returns : goal.returns
returns c = options_spelled
