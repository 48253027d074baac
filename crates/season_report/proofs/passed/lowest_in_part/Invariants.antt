use Rattle.std.proofs.Common.{◌<◌, take}
use Rattle.choice_problem.specs.Strips.{part_uses}
use Rattle.season_report.specs.Private.{IsLowest}
use Rattle.season_report.proofs.passed.lowest_in_part.Given as goal

abbrev pub invariant-loop-strip : goal.invariant-loop-strip
invariant-loop-strip l = IsLowest l.counts l.limits (λ r. 0 < part_uses (take l.strip-index l.strip-items) r) l.lowest
