use Rattle.std.proofs.Common.{◌≡◌, length, take}
use Rattle.choice_problem.specs.Strips.{part_uses}
use Rattle.wasg_stages.specs.Steps.{LowersBy}
use Rattle.wasg_stages.proofs.limits.lower_part.Given as goal

abbrev pub invariant-loop-strip : goal.invariant-loop-strip
invariant-loop-strip l = record {
  count : length l.limits ≡ length l.fn.limits;
  lowered : LowersBy l.fn.limits l.limits (λ r. part_uses (take l.strip-index l.strip-items) r);
}
