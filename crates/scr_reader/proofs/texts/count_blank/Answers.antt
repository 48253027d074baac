use Rattle.std.proofs.Common.{sym, ◌∙◌}
use Rattle.scr_reader.proofs.TextLemmas.{blank_more}
use Rattle.scr_reader.proofs.texts.count_blank.Goals as goal

pub loop-i-preserved : goal.loop-i-preserved
loop-i-preserved c = blank_more c.args.lines.now c.loop-i.i _ c.loop-i-test.true (sym c.is_blank_line.ensures ∙ c.if-not-is_blank_line.false) c.loop-i.invariant
