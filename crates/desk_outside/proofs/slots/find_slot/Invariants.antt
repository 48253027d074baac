use Rattle.desk_outside.proofs.SlotLemmas.{NoneBelow}
use Rattle.desk_outside.proofs.slots.find_slot.Given as goal

abbrev pub invariant-loop-at : goal.invariant-loop-at
invariant-loop-at l = NoneBelow l.slots l.name l.at
