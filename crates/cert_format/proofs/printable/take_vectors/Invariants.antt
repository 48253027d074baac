use Rattle.std.proofs.Common.{◌≡◌, ◌+◌, take}
use Rattle.std.specs.Prelude.{sum_by}
use Rattle.cert_format.specs.Private.Ranges.{prices_line_count}
use Rattle.cert_format.proofs.printable.take_vectors.Given as goal

abbrev pub invariant-loop-vector : goal.invariant-loop-vector
invariant-loop-vector l = l.left + sum_by prices_line_count (take l.vector-index l.vectors) ≡ l.fn.room
