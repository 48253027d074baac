use Rattle.cert_format.proofs.LineLemmas.{NoneBelow}
use Rattle.cert_format.proofs.place.split_word.Given as goal

abbrev pub invariant-loop-i : goal.invariant-loop-i
invariant-loop-i l = NoneBelow 32 l.i l.line
