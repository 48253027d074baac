use Rattle.season_report.specs.Tallies.{is_of_airline}
use Rattle.season_report.proofs.FilterLemmas.{filter_short}
use Rattle.season_report.proofs.airlines.of_airline.Goals as goal

pub returns-clause-few : goal.returns-clause-few
returns-clause-few c = filter_short (is_of_airline c.args.airline) c.args.units.now c.loop-unit.found.items c.loop-unit.unit-index c.loop-unit.invariant
