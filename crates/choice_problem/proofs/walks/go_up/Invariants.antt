use Rattle.std.proofs.Common.{◌≡◌, length, reverse}
use Rattle.std.specs.Vec.{vec_len}
use Rattle.choice_problem.specs.Walks.{pending_of, AreFrames, AreChanges}
use Rattle.choice_problem.proofs.walks.go_up.Given as goal

abbrev pub invariant-loop-frame : goal.invariant-loop-frame
invariant-loop-frame l = record {
  spans : length l.ranges ≡ length l.fn.ranges;
  frames : AreFrames (length l.ranges) l.frames.items;
  same : pending_of l.ranges (reverse l.frames.items) ≡ pending_of l.fn.ranges (reverse l.fn.frames.items);
  changes : AreChanges l.fn.ranges l.ranges l.fn.changed.items l.changed.items;
}

abbrev pub decreases-loop-frame : goal.decreases-loop-frame
decreases-loop-frame l = vec_len l.frames
