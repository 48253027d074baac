use Rattle.scr_reader.proofs.LineLemmas.{printed_line, printed_full}
use Rattle.scr_reader.proofs.laws.printed_lines_are_lines.Goals as goal

pub returns : goal.returns
returns c = record { one = printed_line; full = printed_full }
