use Rattle.cert_format.proofs.LineLemmas.{NoneBelow}
use Rattle.cert_format.proofs.place.split_line.Given as goal

abbrev pub invariant-loop-i : goal.invariant-loop-i
invariant-loop-i l = NoneBelow 10 l.i l.text
