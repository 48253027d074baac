use Rattle.report_page.proofs.SizeLemmas.{page_length}
use Rattle.report_page.proofs.laws.bounded_pages.Goals as goal

pub returns : goal.returns
returns c = page_length
