use Rattle.std.proofs.Common.{refl}
use Rattle.report_page.specs.Rows.{series_rows}
use Rattle.report_page.proofs.EndLemmas.{all_shown}
use Rattle.report_page.proofs.series.put_series.Goals as goal

pub returns : goal.returns
returns c = all_shown (λ lines. series_rows c.loop-line.told lines) _ c.loop-line.lines _ refl (c.in_default.ensures.none.0 refl) c.loop-line.invariant
