use Rattle.scr_reader.proofs.LimitLemmas.{broken_stays, unbroken}
use Rattle.scr_reader.proofs.laws.breaks_stay.Goals as goal

pub returns : goal.returns
returns c = record { broken = broken_stays; unbroken = unbroken }
