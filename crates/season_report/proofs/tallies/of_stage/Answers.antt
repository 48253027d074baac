use Rattle.season_report.specs.Decisions.{is_of_stage}
use Rattle.season_report.proofs.FilterLemmas.{filter_short}
use Rattle.season_report.proofs.tallies.of_stage.Goals as goal

pub returns-clause-few : goal.returns-clause-few
returns-clause-few c = filter_short (is_of_stage c.args.stage) c.args.units.now c.loop-unit.found.items c.loop-unit.unit-index c.loop-unit.invariant
