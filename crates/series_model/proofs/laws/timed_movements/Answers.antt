use Rattle.series_model.proofs.ShiftLemmas.{shift_movements, alternative_movements, historic_movements}
use Rattle.series_model.proofs.laws.timed_movements.Goals as goal

pub returns : goal.returns
returns c = record { shifts = shift_movements; alternatives = alternative_movements; historic = historic_movements }
