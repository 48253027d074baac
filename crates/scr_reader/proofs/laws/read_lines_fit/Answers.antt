use Rattle.scr_reader.proofs.FitsLemmas.{read_fits}
use Rattle.scr_reader.proofs.ItemLemmas.{one_read_fits, all_read_fit}
use Rattle.scr_reader.proofs.laws.read_lines_fit.Goals as goal

pub returns : goal.returns
returns c = record { line = read_fits; message = one_read_fits; all = all_read_fit }
