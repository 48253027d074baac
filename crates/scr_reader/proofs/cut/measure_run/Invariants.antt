use Rattle.std.proofs.Common.{length}
use Rattle.scr_reader.proofs.PieceLemmas.{InFront}
use Rattle.scr_reader.proofs.cut.measure_run.Given as goal

abbrev pub invariant-loop-line : goal.invariant-loop-line
invariant-loop-line l = InFront l.text l.lines l.bytes l.rest

abbrev pub decreases-loop-line : goal.decreases-loop-line
decreases-loop-line l = length l.rest
