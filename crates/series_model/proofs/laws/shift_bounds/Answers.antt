use Rattle.series_model.proofs.BoundLemmas.{shifts_fit}
use Rattle.series_model.proofs.TimedLemmas.{shifts_spelled}
use Rattle.series_model.proofs.laws.shift_bounds.Goals as goal

pub returns : goal.returns
returns c = record { times = shifts_fit; spelled = shifts_spelled }
