use Rattle.scr_reader.proofs.ItemTextLemmas.{item_few, item_begins}
use Rattle.scr_reader.proofs.laws.printed_items.Goals as goal

pub returns : goal.returns
returns c = record { short = item_few; first = item_begins }
