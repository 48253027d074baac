use Rattle.std.proofs.Common.{take}
use Rattle.scr_reader.specs.Private.Texts.{texts_in}
use Rattle.scr_reader.specs.Private.Readings.{AreReadings}
use Rattle.scr_reader.proofs.run_reader.read_rows.Given as goal

abbrev pub invariant-loop-line : goal.invariant-loop-line
invariant-loop-line l = AreReadings l.season (texts_in (take l.line-index l.lines)) l.rows.items
