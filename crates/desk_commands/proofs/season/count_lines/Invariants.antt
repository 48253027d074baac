use Rattle.std.proofs.Common.{◌≡◌, ◌≤◌, ◌+◌, length}
use Rattle.slot_text.specs.Lines.{lines_of}
use Rattle.desk_commands.proofs.season.count_lines.Given as goal

abbrev pub invariant-loop-count : goal.invariant-loop-count
invariant-loop-count l =
    record {
      counted : l.count + length (lines_of l.lines) ≡ length (lines_of l.text);
      small : l.count + length l.lines ≤ length l.text;
    }

abbrev pub decreases-loop-count : goal.decreases-loop-count
decreases-loop-count l = length l.lines
