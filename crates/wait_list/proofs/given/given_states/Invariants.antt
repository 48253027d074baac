use Rattle.std.proofs.Common.{◌≡◌, ◌++◌, drop}
use Rattle.wait_list.specs.Waiting.{given_states}
use Rattle.wait_list.proofs.given.given_states.Given as goal

abbrev pub invariant-loop-n : goal.invariant-loop-n
invariant-loop-n l = l.states.items ++ given_states l.terms (drop l.n l.lines) (drop l.n l.numbers) ≡ given_states l.terms l.lines l.numbers
