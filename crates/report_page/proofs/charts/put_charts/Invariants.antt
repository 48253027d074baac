use Rattle.std.proofs.Common.{◌≡◌, ◌++◌, length}
use Rattle.slot_text.specs.Lines.{lines_of}
use Rattle.report_page.specs.Rows.{charts}
use Rattle.report_page.proofs.charts.put_charts.Given as goal

abbrev pub invariant-loop-line : goal.invariant-loop-line
invariant-loop-line l = l.out.items ++ charts (lines_of l.report) (lines_of l.lines) ≡ l.initial.out.items ++ charts (lines_of l.report) (lines_of l.report)

abbrev pub decreases-loop-line : goal.decreases-loop-line
decreases-loop-line l = length l.lines
