use Rattle.std.proofs.Common.{◌≡◌, ◌+◌, ◌≤◌, length, drop}
use Rattle.slot_text.specs.Lines.{lines_of}
use Rattle.capacity_file.specs.Readings.{Collected}
use Rattle.capacity_file.proofs.reading.collect.Given as goal

abbrev pub invariant-loop-line : goal.invariant-loop-line
invariant-loop-line l =
    record {
      rest : lines_of l.lines ≡ drop l.count (lines_of l.bytes);
      within : l.count ≤ length (lines_of l.bytes);
      small : l.count + length l.lines ≤ length l.bytes;
      known : Collected (lines_of l.bytes) l.count l.draft.singles l.draft.rules.items;
    }

abbrev pub decreases-loop-line : goal.decreases-loop-line
decreases-loop-line l = length l.lines
