use Rattle.scr_reader.proofs.StreamLemmas.{more_stay}
use Rattle.scr_reader.proofs.laws.messages_stay.Goals as goal

pub returns : goal.returns
returns c = more_stay
