use Rattle.std.proofs.Common.{◌≡◌, take}
use Rattle.std.specs.Prelude.{map}
use Rattle.series_model.specs.Displacement.{cost_at}
use Rattle.holding_book.proofs.levels.costs_of.Given as goal

abbrev pub invariant-loop-times : goal.invariant-loop-times
invariant-loop-times l = record {
  costs : l.costs.items ≡ map (cost_at l.declaration l.line) (take l.times-index l.shifts);
}
