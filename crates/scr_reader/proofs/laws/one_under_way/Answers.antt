use Rattle.scr_reader.proofs.StreamLemmas.{so_far, at_end}
use Rattle.scr_reader.proofs.laws.one_under_way.Goals as goal

pub returns : goal.returns
returns c = record { so_far = so_far; at_end = at_end }
