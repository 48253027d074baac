use Rattle.capacity_windows.proofs.HeldLemmas.{held_number}
use Rattle.capacity_windows.proofs.laws.held_windows.Goals as goal

pub returns : goal.returns
returns c = held_number
