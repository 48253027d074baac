use Rattle.std.proofs.Common.{◌≡◌, take}
use Rattle.season_report.specs.Tallies.{tally_of}
use Rattle.season_report.proofs.tallies.tally_of.Given as goal

abbrev pub invariant-loop-unit : goal.invariant-loop-unit
invariant-loop-unit l = l.tally ≡ tally_of l.declaration (take l.unit-index l.units)
