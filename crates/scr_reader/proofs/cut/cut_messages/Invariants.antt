use Rattle.std.proofs.Common.{◌-◌, length}
use Rattle.scr_reader.proofs.PieceLemmas.{IsCut}
use Rattle.scr_reader.proofs.cut.cut_messages.Given as goal

abbrev pub invariant-loop-from : goal.invariant-loop-from
invariant-loop-from l = IsCut l.bytes l.pieces.items l.line l.from

abbrev pub decreases-loop-from : goal.decreases-loop-from
decreases-loop-from l = length l.bytes - l.from
