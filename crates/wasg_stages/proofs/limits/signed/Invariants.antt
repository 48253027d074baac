use Rattle.std.proofs.Common.{◌≡◌, map, take, pos}
use Rattle.wasg_stages.proofs.limits.signed.Given as goal

abbrev pub invariant-loop-number : goal.invariant-loop-number
invariant-loop-number l = l.limits.items ≡ map pos (take l.number-index l.numbers)
