use Rattle.std.proofs.Common.{◌≡◌, ◌+◌, drop}
use Rattle.scr_reader.specs.Private.Texts.{texts_in}
use Rattle.scr_reader.specs.Messages.{front_length}
use Rattle.scr_reader.proofs.run_reader.count_front.Given as goal

abbrev pub invariant-loop-i : goal.invariant-loop-i
invariant-loop-i l = front_length (texts_in l.lines) ≡ l.i + front_length (texts_in (drop l.i l.lines))
