use Rattle.std.proofs.Common.{refl, arith}
use Rattle.cert_format.proofs.LineLemmas.{line_cut, no_lines}
use Rattle.cert_format.proofs.place.split_line.Goals as goal

pub returns-then-b-eq10-clause-lines : goal.returns-then-b-eq10-clause-lines
returns-then-b-eq10-clause-lines c = line_cut c.args.text.now c.loop-i.i c.loop-i-test.true c.if-b-eq10.true c.loop-i.invariant

pub returns-clause-lines : goal.returns-clause-lines
returns-clause-lines c = no_lines c.args.text.now _ c.requires (λ k lt. c.loop-i.invariant k (omega arith)) refl
