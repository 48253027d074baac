use Rattle.std.proofs.Common.{◌≡◌, ◌++◌, length}
use Rattle.slot_text.specs.Lines.{lines_of}
use Rattle.scr_reader.specs.Private.Texts.{texts_in}
use Rattle.scr_reader.proofs.run_reader.lines_in.Given as goal

abbrev pub invariant-loop-line : goal.invariant-loop-line
invariant-loop-line l = texts_in l.lines.items ++ lines_of l.rest ≡ lines_of l.bytes

abbrev pub decreases-loop-line : goal.decreases-loop-line
decreases-loop-line l = length (lines_of l.rest)
