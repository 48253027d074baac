use Rattle.std.proofs.Common.{◌≡◌, [], length}
use Rattle.slot_text.specs.Lines.{lines_of}
use Rattle.report_page.specs.Rows.{peak_from}
use Rattle.report_page.proofs.charts.peak_of.Given as goal

abbrev pub invariant-loop-line : goal.invariant-loop-line
invariant-loop-line l = peak_from l.number l.best (lines_of l.lines) ≡ peak_from l.number [] (lines_of l.report)

abbrev pub decreases-loop-line : goal.decreases-loop-line
decreases-loop-line l = length l.lines
