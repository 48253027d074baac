use Rattle.std.proofs.Common.{refl}
use Rattle.report_page.specs.Rows.{bars}
use Rattle.report_page.proofs.EndLemmas.{all_shown}
use Rattle.report_page.proofs.charts.put_bars.Goals as goal

pub returns : goal.returns
returns c = all_shown (λ lines. bars c.args.number.now lines) _ c.loop-line.lines _ refl (c.in_default.ensures.none.0 refl) c.loop-line.invariant
