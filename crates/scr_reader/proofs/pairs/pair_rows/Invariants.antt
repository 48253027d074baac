use Rattle.std.proofs.Common.{length}
use Rattle.scr_reader.proofs.PairLemmas.{Onward}
use Rattle.scr_reader.proofs.pairs.pair_rows.Given as goal

abbrev pub invariant-loop-reading : goal.invariant-loop-reading
invariant-loop-reading l = Onward l.rows l.first l.items.items l.follows l.number l.rest

abbrev pub decreases-loop-reading : goal.decreases-loop-reading
decreases-loop-reading l = length l.rest
