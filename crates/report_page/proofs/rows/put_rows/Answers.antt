use Rattle.std.proofs.Common.{refl}
use Rattle.report_page.specs.Rows.{section_rows}
use Rattle.report_page.proofs.EndLemmas.{all_shown}
use Rattle.report_page.proofs.rows.put_rows.Goals as goal

pub returns : goal.returns
returns c = all_shown (λ lines. section_rows c.args.section lines) _ c.loop-line.lines _ refl (c.in_default.ensures.none.0 refl) c.loop-line.invariant
