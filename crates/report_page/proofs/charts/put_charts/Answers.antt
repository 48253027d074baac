use Rattle.std.proofs.Common.{refl}
use Rattle.slot_text.specs.Lines.{lines_of}
use Rattle.report_page.specs.Rows.{charts}
use Rattle.report_page.proofs.EndLemmas.{all_shown}
use Rattle.report_page.proofs.charts.put_charts.Goals as goal

pub returns : goal.returns
returns c = all_shown (λ lines. charts (lines_of c.args.report.now) lines) _ c.loop-line.lines _ refl (c.in_default.ensures.none.0 refl) c.loop-line.invariant
