use Rattle.std.proofs.Common.{refl}
use Rattle.scr_reader.proofs.RunLemmas.{lines_end}
use Rattle.scr_reader.proofs.run_reader.lines_in.Goals as goal

pub returns-clause-found : goal.returns-clause-found
returns-clause-found c = lines_end _ c.loop-line.rest _ (c.in_default.ensures.none.0 refl) c.loop-line.invariant
