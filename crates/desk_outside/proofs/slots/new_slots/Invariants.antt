use Rattle.std.proofs.Common.{◌≡◌, length}
use Rattle.desk_outside.specs.Slots.{HaveRoom}
use Rattle.desk_outside.proofs.slots.new_slots.Given as goal

abbrev pub invariant-loop : goal.invariant-loop
invariant-loop l = (length l.slots.items ≡ l.counter) × HaveRoom l.room l.slots.items
