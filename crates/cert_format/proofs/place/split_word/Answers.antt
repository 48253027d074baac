use Rattle.std.proofs.Common.{arith}
use Rattle.cert_format.proofs.LineLemmas.{word_cut, last_word}
use Rattle.cert_format.proofs.place.split_word.Goals as goal

pub returns-then-b-eq32 : goal.returns-then-b-eq32
returns-then-b-eq32 c = word_cut c.args.line.now c.loop-i.i c.loop-i-test.true c.if-b-eq32.true c.loop-i.invariant

pub returns : goal.returns
returns c = last_word c.args.line.now (λ k lt. c.loop-i.invariant k (omega arith))
