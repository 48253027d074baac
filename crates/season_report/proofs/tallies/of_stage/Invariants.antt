use Rattle.std.proofs.Common.{◌≡◌, take}
use Rattle.std.specs.Prelude.{filter}
use Rattle.season_report.specs.Decisions.{is_of_stage}
use Rattle.season_report.proofs.tallies.of_stage.Given as goal

abbrev pub invariant-loop-unit : goal.invariant-loop-unit
invariant-loop-unit l = l.found.items ≡ filter (is_of_stage l.stage) (take l.unit-index l.units)
