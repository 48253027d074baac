use Rattle.std.proofs.Common.{◌≡◌, take}
use Rattle.wait_list.specs.Waiting.{waiting_units}
use Rattle.wait_list.proofs.problem.waiting_units.Given as goal

abbrev pub invariant-loop-line : goal.invariant-loop-line
invariant-loop-line l = l.units.items ≡ waiting_units (take l.line-index l.lines)
