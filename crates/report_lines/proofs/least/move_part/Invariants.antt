use Rattle.std.proofs.Common.{◌≡◌, length, take}
use Rattle.choice_problem.specs.Strips.{part_uses}
use Rattle.report_lines.specs.Private.{MovesUses}
use Rattle.report_lines.proofs.least.move_part.Given as goal

abbrev pub invariant-loop-strip : goal.invariant-loop-strip
invariant-loop-strip l = record {
  count : length l.counts ≡ length l.fn.counts;
  moves : MovesUses l.fn.counts l.fn.used.items l.counts l.used.items (part_uses (take l.strip-index l.strip-items));
}
