use Rattle.std.proofs.Common.{ℕ, ◌+◌, ◌*◌}
use Rattle.std.specs.List.{range_with_len}
use Rattle.report_lines.specs.Peaks.{Excess}
use Rattle.report_lines.specs.Private.{IsExcess, IsAbove}
use Rattle.report_lines.proofs.AboveLemmas.{IsSmall}
use Rattle.report_lines.proofs.excess.ExcessLists.days_above.Given as goal

abbrev pub invariant-loop-day : goal.invariant-loop-day
invariant-loop-day l = record {
  small : IsSmall l.found l.day l.days;
  found : (e : Excess) → IsExcess e l.self → IsAbove e (λ (day : ℕ). l.first + day * l.starts + l.start) (range_with_len 0 l.day) l.found;
}
