use Rattle.scr_reader.proofs.LengthLemmas.{printed_short}
use Rattle.scr_reader.proofs.laws.printed_lines_are_short.Goals as goal

pub returns : goal.returns
returns c = printed_short
