use Rattle.std.proofs.Common.{sym, ◌∙◌, arith}
use Rattle.scr_reader.proofs.RunLemmas.{front_more, front_stop, front_end}
use Rattle.scr_reader.proofs.run_reader.count_front.Goals as goal

pub returns-then-is_blank_line-clause-exact : goal.returns-then-is_blank_line-clause-exact
returns-then-is_blank_line-clause-exact c = front_stop c.args.lines.now c.loop-i.i _ c.loop-i-test.true (sym c.is_blank_line.ensures ∙ c.if-is_blank_line.true) c.loop-i.invariant

pub loop-i-preserved : goal.loop-i-preserved
loop-i-preserved c = front_more c.args.lines.now c.loop-i.i _ c.loop-i-test.true (sym c.is_blank_line.ensures ∙ c.if-is_blank_line.false) c.loop-i.invariant

pub returns-clause-exact : goal.returns-clause-exact
returns-clause-exact c = omega (arith, front_end c.args.lines.now c.loop-i.i c.loop-i-test.false c.loop-i.invariant, c.loop-i-test.false, c.loop-i.auto.i-end)
