use Rattle.std.proofs.Common.{◌≡◌, take}
use Rattle.series_model.specs.Units.{units_of}
use Rattle.series_model.proofs.message_units.collect_units.Given as goal

abbrev pub invariant-loop-message : goal.invariant-loop-message
invariant-loop-message l = l.units.items ≡ units_of (take l.message-index l.messages)
