use Rattle.std.proofs.Common.{refl}
use Rattle.report_page.specs.Pages.{page_text}
use Rattle.report_page.proofs.MarkupLemmas.{safe_has}
use Rattle.report_page.proofs.PageLemmas.{page_safe}
use Rattle.report_page.proofs.laws.no_scripts.Goals as goal

pub returns : goal.returns
returns c = record {
  small = λ report. safe_has (page_text report) 115 99 refl (page_safe report);
  capital = λ report. safe_has (page_text report) 83 67 refl (page_safe report);
  first = λ report. safe_has (page_text report) 83 99 refl (page_safe report);
  second = λ report. safe_has (page_text report) 115 67 refl (page_safe report);
}
