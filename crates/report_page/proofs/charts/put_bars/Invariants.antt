use Rattle.std.proofs.Common.{◌≡◌, ◌++◌, length}
use Rattle.slot_text.specs.Lines.{lines_of}
use Rattle.report_page.specs.Rows.{bars}
use Rattle.report_page.proofs.charts.put_bars.Given as goal

abbrev pub invariant-loop-line : goal.invariant-loop-line
invariant-loop-line l = l.out.items ++ bars l.number (lines_of l.lines) ≡ l.initial.out.items ++ bars l.number (lines_of l.report)

abbrev pub decreases-loop-line : goal.decreases-loop-line
decreases-loop-line l = length l.lines
