use Rattle.scr_reader.proofs.AskedLemmas.{entry_asked, one_read_asked, all_read_asked}
use Rattle.scr_reader.proofs.laws.read_items_can_be_asked.Goals as goal

pub returns : goal.returns
returns c = record { line = entry_asked; message = one_read_asked; all = all_read_asked }
