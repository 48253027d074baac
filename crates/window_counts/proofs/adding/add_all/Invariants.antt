use Rattle.std.proofs.Common.{◌≡◌, ℕ, ◌<◌, length, slice_index, take}
use Rattle.window_counts.specs.Counts.{listed_uses}
use Rattle.window_counts.proofs.adding.add_all.Given as goal

abbrev pub invariant-loop-part : goal.invariant-loop-part
invariant-loop-part l = (r : ℕ) → r < length l.fn.counts → slice_index l.counts r ≡ listed_uses (take l.part-index l.parts) r
