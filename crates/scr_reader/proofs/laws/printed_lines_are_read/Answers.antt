use Rattle.scr_reader.proofs.PrintLemmas.{printed_back}
use Rattle.scr_reader.proofs.laws.printed_lines_are_read.Goals as goal

pub returns : goal.returns
returns c = λ season code line digits. printed_back season code line (λ month of_month day. c.named_days.ensures season month of_month day digits)
