use Rattle.std.proofs.Common.{arith}
use Rattle.scr_reader.proofs.CutLemmas.{cut_all}
use Rattle.scr_reader.proofs.fields.Fields.cut_from.Goals as goal

pub returns-in_default : goal.returns-in_default
returns-in_default c = cut_all c.loop-n.items c.loop-n.n _ _ (omega arith) (omega (arith, c.loop-n.invariant.1)) c.in_default.ensures c.loop-n.invariant.0
