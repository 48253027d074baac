use Rattle.std.proofs.Common.{◌≡◌, take}
use Rattle.std.specs.Prelude.{filter}
use Rattle.season_report.specs.Tallies.{is_of_airline}
use Rattle.season_report.proofs.airlines.of_airline.Given as goal

abbrev pub invariant-loop-unit : goal.invariant-loop-unit
invariant-loop-unit l = l.found.items ≡ filter (is_of_airline l.airline) (take l.unit-index l.units)
