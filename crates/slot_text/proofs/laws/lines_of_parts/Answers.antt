use Rattle.slot_text.proofs.PartLemmas.{lines_parts}
use Rattle.slot_text.proofs.laws.lines_of_parts.Goals as goal

pub returns : goal.returns
returns c = lines_parts
