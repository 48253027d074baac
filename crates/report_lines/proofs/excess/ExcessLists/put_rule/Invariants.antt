use Rattle.std.proofs.Common.{◌≡◌, ◌+◌, ◌++◌}
use Rattle.std.specs.List.{flat_map, range_with_len}
use Rattle.report_lines.specs.Peaks.{Excess, excess_line}
use Rattle.report_lines.specs.Private.{IsExcess}
use Rattle.report_lines.proofs.excess.ExcessLists.put_rule.Given as goal

abbrev pub invariant-loop-start : goal.invariant-loop-start
invariant-loop-start l =
    (e : Excess) → IsExcess e l.self →
    l.out.items ≡ l.initial.out.items ++ flat_map (excess_line l.windows e (l.rule + 1) l.of l.first) (range_with_len 0 l.start)
