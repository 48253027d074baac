use Rattle.std.proofs.Common.{◌≡◌, drop}
use Rattle.scr_reader.specs.Messages.{next_row}
use Rattle.scr_reader.specs.Private.Pairing.{rows_read}
use Rattle.scr_reader.proofs.pairs.next_entry.Given as goal

abbrev pub invariant-loop-reading : goal.invariant-loop-reading
invariant-loop-reading l = next_row (rows_read (drop l.reading-index l.rows)) ≡ next_row (rows_read l.rows)
