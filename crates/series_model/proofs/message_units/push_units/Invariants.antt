use Rattle.std.proofs.Common.{◌≡◌, ◌++◌, take}
use Rattle.std.specs.List.{filter_map}
use Rattle.series_model.specs.Units.{placed_unit}
use Rattle.series_model.proofs.message_units.push_units.Given as goal

abbrev pub invariant-loop-placed : goal.invariant-loop-placed
invariant-loop-placed l = l.units.items ≡ l.initial.units.items ++ filter_map placed_unit (take l.placed-index l.items)
