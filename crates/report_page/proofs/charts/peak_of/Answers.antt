use Rattle.std.proofs.Common.{refl}
use Rattle.report_page.proofs.EndLemmas.{none_left}
use Rattle.report_page.proofs.charts.peak_of.Goals as goal

pub returns : goal.returns
returns c =
    let none = none_left c.loop-line.lines (c.in_default.ensures.none.0 refl) in
    rw none at c.loop-line.invariant
