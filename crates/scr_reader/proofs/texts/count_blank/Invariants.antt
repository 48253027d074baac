use Rattle.std.proofs.Common.{◌≡◌, ◌+◌, drop}
use Rattle.scr_reader.specs.Private.Texts.{texts_in}
use Rattle.scr_reader.specs.Messages.{runs_of}
use Rattle.scr_reader.proofs.texts.count_blank.Given as goal

abbrev pub invariant-loop-i : goal.invariant-loop-i
invariant-loop-i l = runs_of 1 (texts_in l.lines) ≡ runs_of (1 + l.i) (texts_in (drop l.i l.lines))
