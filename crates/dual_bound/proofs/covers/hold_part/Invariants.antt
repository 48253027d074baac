use Rattle.std.proofs.Common.{ℕ, ◌≤◌, take}
use Rattle.choice_problem.specs.Strips.{part_uses, IsPartInRange}
use Rattle.dual_bound.specs.Covers.{AreHeldIn, cover_uses, held_uses}
use Rattle.dual_bound.proofs.covers.hold_part.Given as goal

abbrev pub invariant-loop-strip : goal.invariant-loop-strip
invariant-loop-strip l = record {
  part : (r : ℕ) → part_uses (take l.strip-index l.strip-items) r ≤ held_uses l.number l.cover.items r;
  more : (r : ℕ) → cover_uses l.fn.cover.items r ≤ cover_uses l.cover.items r;
  there : (resources : ℕ) → IsPartInRange resources l.strip-items → AreHeldIn resources l.fn.cover.items → AreHeldIn resources l.cover.items;
}
