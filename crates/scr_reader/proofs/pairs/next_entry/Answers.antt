use Rattle.std.proofs.Common.{refl, ap}
use Rattle.scr_reader.specs.Private.Readings.{row_read}
use Rattle.scr_reader.proofs.PairLemmas.{stop_at_entry}
use Rattle.scr_reader.proofs.pairs.next_entry.Goals as goal

pub returns-in-Entry : goal.returns-in-Entry
returns-in-Entry c = stop_at_entry c.args.rows.now c.loop-reading.reading-index _ _ c.in-Entry.line c.loop-reading-test.true refl (ap row_read c.in-Entry.is) c.loop-reading.invariant
