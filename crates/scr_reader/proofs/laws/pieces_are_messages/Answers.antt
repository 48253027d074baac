use Rattle.scr_reader.proofs.AlikeLemmas.{pieces_lines, pieces_held}
use Rattle.scr_reader.proofs.laws.pieces_are_messages.Goals as goal

pub returns : goal.returns
returns c = record { lines = pieces_lines; held = pieces_held }
