use Rattle.series_model.proofs.ShiftLemmas.{own_cost, free_is_own}
use Rattle.series_model.proofs.laws.free_shift.Goals as goal

pub returns : goal.returns
returns c = record { own = own_cost; free = free_is_own }
