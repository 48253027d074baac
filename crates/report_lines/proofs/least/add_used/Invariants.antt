use Rattle.std.proofs.Common.{◌≡◌, length, take}
use Rattle.choice_problem.specs.Counts.{GrowsBy}
use Rattle.report_lines.specs.Private.{uses_in}
use Rattle.report_lines.proofs.least.add_used.Given as goal

abbrev pub invariant-loop-one : goal.invariant-loop-one
invariant-loop-one l = record {
  count : length l.loads ≡ length l.fn.loads;
  grown : GrowsBy l.fn.loads l.loads (uses_in (take l.one-index l.used));
}
