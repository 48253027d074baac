use Rattle.std.proofs.Common.{◌≡◌, ℕ, ◌+◌, ◌++◌}
use Rattle.std.specs.List.{flat_map, range_with_len}
use Rattle.report_lines.specs.Peaks.{profile_line}
use Rattle.report_lines.specs.Private.{HasLoads}
use Rattle.report_lines.proofs.profile.put_rule.Given as goal

abbrev pub invariant-loop-start : goal.invariant-loop-start
invariant-loop-start l =
    (load : ℕ → ℕ) → HasLoads l.windows l.loads load →
    l.out.items ≡ l.initial.out.items ++ flat_map (profile_line l.windows load (l.rule + 1) l.of l.first) (range_with_len 0 l.start)
