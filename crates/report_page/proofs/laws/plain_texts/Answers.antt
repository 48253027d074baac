use Rattle.report_page.proofs.TextLemmas.{escaped_plain}
use Rattle.report_page.proofs.laws.plain_texts.Goals as goal

pub returns : goal.returns
returns c = escaped_plain
