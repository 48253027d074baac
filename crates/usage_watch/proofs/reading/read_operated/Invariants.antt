use Rattle.std.proofs.Common.{◌+◌, ◌≤◌, length}
use Rattle.slot_text.specs.Lines.{lines_of}
use Rattle.usage_watch.specs.Private.Reading.{IsReadSoFar}
use Rattle.usage_watch.proofs.reading.read_operated.Given as goal

abbrev pub invariant-loop-line : goal.invariant-loop-line
invariant-loop-line l = record {
  small : l.count + length l.lines ≤ length l.bytes;
  so_far : IsReadSoFar l.season (lines_of l.bytes) (lines_of l.lines) (l.count + 1) l.reports.items;
}

abbrev pub decreases-loop-line : goal.decreases-loop-line
decreases-loop-line l = length l.lines
