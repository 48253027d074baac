use Rattle.std.proofs.Common.{◌≡◌, ℕ, ◌-◌, List, Some, length}
use Rattle.std.specs.Prelude.{slice_get}
use Rattle.slot_text.specs.Lines.{lines_of}
use Rattle.fault_causes.proofs.capacity.line_of.Given as goal

abbrev pub invariant-loop-line : goal.invariant-loop-line
invariant-loop-line l =
    (line : List ℕ) → slice_get (lines_of l.text) (l.number - 1) ≡ Some line → slice_get (lines_of l.lines) (l.left - 1) ≡ Some line

abbrev pub decreases-loop-line : goal.decreases-loop-line
decreases-loop-line l = length l.lines
