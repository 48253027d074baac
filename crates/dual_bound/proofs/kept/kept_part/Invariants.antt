use Rattle.std.proofs.Common.{take}
use Rattle.choice_problem.specs.Strips.{IsPartInRange}
use Rattle.dual_bound.specs.Kept.{UseKept, kept_count}
use Rattle.dual_bound.proofs.kept.kept_part.Given as goal

abbrev pub invariant-loop-strip : goal.invariant-loop-strip
invariant-loop-strip l = record {
  uses : UseKept l.problem l.ranks l.strips.items (take l.strip-index l.strip-items);
  there : IsPartInRange (kept_count l.problem l.ranks) l.strips.items;
}
