use Rattle.series_model.proofs.BoundLemmas.{requested_is}
use Rattle.series_model.proofs.laws.requested_shift.Goals as goal

pub returns : goal.returns
returns c = requested_is
