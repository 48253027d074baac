use Rattle.std.proofs.Common.{refl, sym, ◌∙◌}
use Rattle.slot_text.proofs.BlankLemmas.{blank_step, blank_stop, blank_end}
use Rattle.slot_text.proofs.blanks.is_blank_line.Goals as goal

pub returns-then-not-is_blank_byte : goal.returns-then-not-is_blank_byte
returns-then-not-is_blank_byte c = blank_stop c.args.line.now c.loop-byte.byte-index _ c.loop-byte-test.true refl (sym c.is_blank_byte.ensures ∙ c.if-not-is_blank_byte.true) c.loop-byte.invariant

pub loop-byte-preserved : goal.loop-byte-preserved
loop-byte-preserved c = blank_step c.args.line.now c.loop-byte.byte-index _ c.loop-byte-test.true refl (sym c.is_blank_byte.ensures ∙ c.if-not-is_blank_byte.false) c.loop-byte.invariant

pub returns : goal.returns
returns c = blank_end c.args.line.now c.loop-byte.byte-index c.loop-byte-test.false c.loop-byte.invariant
