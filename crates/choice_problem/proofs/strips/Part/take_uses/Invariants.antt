use Rattle.std.proofs.Common.{◌≡◌, ℕ, ◌+◌, ◌<◌, length, slice_index, take}
use Rattle.choice_problem.specs.Strips.{part_uses}
use Rattle.choice_problem.proofs.strips.Part.take_uses.Given as goal

abbrev pub invariant-loop-strip : goal.invariant-loop-strip
invariant-loop-strip l = (r : ℕ) → r < length l.fn.counts →
    slice_index l.fn.counts r ≡ slice_index l.counts r + part_uses (take l.strip-index l.strip-items) r
