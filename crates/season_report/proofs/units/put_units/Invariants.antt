use Rattle.std.proofs.Common.{◌≡◌, ◌++◌, drop}
use Rattle.season_report.specs.Reports.{units_text}
use Rattle.season_report.specs.Private.{texts_of}
use Rattle.season_report.proofs.units.put_units.Given as goal

abbrev pub invariant-loop-i : goal.invariant-loop-i
invariant-loop-i l =
    l.out.items ++ units_text l.declaration (drop l.i l.units) (drop l.i (texts_of l.reasons))
    ≡ l.fn.out.items ++ units_text l.declaration l.units (texts_of l.reasons)
