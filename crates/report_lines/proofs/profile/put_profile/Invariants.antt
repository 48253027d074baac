use Rattle.std.proofs.Common.{◌≡◌, ℕ, ◌+◌, ◌++◌, drop}
use Rattle.capacity_windows.specs.Windows.{first_of}
use Rattle.report_lines.specs.Peaks.{profile_from, profile_lines}
use Rattle.report_lines.specs.Private.{HasLoads}
use Rattle.report_lines.proofs.profile.put_profile.Given as goal

abbrev pub invariant-loop-rule : goal.invariant-loop-rule
invariant-loop-rule l = record {
  first : l.first ≡ first_of l.windows l.rule;
  text : (load : ℕ → ℕ) → HasLoads l.windows l.loads load →
      l.out.items ++ profile_from l.windows load (l.rule + 1) (drop l.rule l.windows.rules) l.first ≡ l.initial.out.items ++ profile_lines l.windows load;
}
