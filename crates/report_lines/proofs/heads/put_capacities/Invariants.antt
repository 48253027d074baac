use Rattle.std.proofs.Common.{◌≡◌, ◌+◌, ◌++◌, drop}
use Rattle.report_lines.specs.Heads.{capacity_lines}
use Rattle.report_lines.proofs.heads.put_capacities.Given as goal

abbrev pub invariant-loop-i : goal.invariant-loop-i
invariant-loop-i l = l.out.items ++ capacity_lines (l.i + 1) (drop l.i l.rules) ≡ l.initial.out.items ++ capacity_lines 1 l.rules
