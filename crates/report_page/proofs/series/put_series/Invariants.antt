use Rattle.std.proofs.Common.{◌≡◌, ◌++◌, length, false}
use Rattle.slot_text.specs.Lines.{lines_of}
use Rattle.report_page.specs.Rows.{series_rows}
use Rattle.report_page.proofs.series.put_series.Given as goal

abbrev pub invariant-loop-line : goal.invariant-loop-line
invariant-loop-line l = l.out.items ++ series_rows l.told (lines_of l.lines) ≡ l.initial.out.items ++ series_rows false (lines_of l.report)

abbrev pub decreases-loop-line : goal.decreases-loop-line
decreases-loop-line l = length l.lines
