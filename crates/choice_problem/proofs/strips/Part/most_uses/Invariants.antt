use Rattle.std.proofs.Common.{◌≡◌, ◌≤◌, ◌*◌, ◌^◌, take}
use Rattle.choice_problem.specs.Allowed.{part_most}
use Rattle.choice_problem.proofs.strips.Part.most_uses.Given as goal

abbrev pub invariant-loop-strip : goal.invariant-loop-strip
invariant-loop-strip l = record {
  most : l.most ≡ part_most (take l.strip-index l.strip-items);
  small : l.most ≤ l.strip-index * 2 ^ 32;
}
