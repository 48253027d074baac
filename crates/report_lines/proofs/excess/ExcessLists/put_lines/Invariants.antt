use Rattle.std.proofs.Common.{◌≡◌, ◌+◌, ◌++◌, drop}
use Rattle.capacity_windows.specs.Windows.{first_of}
use Rattle.report_lines.specs.Peaks.{Excess, excess_from, excess_lines}
use Rattle.report_lines.specs.Private.{IsExcess}
use Rattle.report_lines.proofs.excess.ExcessLists.put_lines.Given as goal

abbrev pub invariant-loop-rule : goal.invariant-loop-rule
invariant-loop-rule l = record {
  first : l.first ≡ first_of l.windows l.rule;
  text : (e : Excess) → IsExcess e l.self →
      l.out.items ++ excess_from l.windows e (l.rule + 1) (drop l.rule l.windows.rules) l.first ≡ l.initial.out.items ++ excess_lines l.windows e;
}
