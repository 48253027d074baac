use Rattle.std.proofs.Common.{◌≡◌, ◌++◌, drop}
use Rattle.season_report.specs.Decisions.{decided_units}
use Rattle.season_report.proofs.decided.decided_units.Given as goal

abbrev pub invariant-loop-i : goal.invariant-loop-i
invariant-loop-i l = l.units.items ++ decided_units l.cert (drop l.i l.befores) (drop l.i l.afters) ≡ decided_units l.cert l.befores l.afters
