use Rattle.scr_reader.proofs.RisingLemmas.{text_rises, text_between}
use Rattle.scr_reader.proofs.laws.lines_rise.Goals as goal

pub returns : goal.returns
returns c = record { rising = text_rises; within = text_between }
