use Rattle.slot_text.proofs.SpelledLemmas.{lines_of-line}
use Rattle.slot_text.proofs.laws.spelled_lines.Goals as goal

pub returns : goal.returns
returns c = lines_of-line
