use Rattle.std.proofs.Common.{◌≡◌, drop}
use Rattle.season_report.specs.Tallies.{airlines_from, airlines_of}
use Rattle.season_report.proofs.airlines.airlines_of.Given as goal

abbrev pub invariant-loop-unit : goal.invariant-loop-unit
invariant-loop-unit l = airlines_from l.airlines.items (drop l.unit-index l.units) ≡ airlines_of l.units
