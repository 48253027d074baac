use Rattle.std.proofs.Common.{◌≡◌, ◌≤◌, length, drop}
use Rattle.std.specs.Prelude.{All}
use Rattle.scr_reader.specs.Printed.{LineFits}
use Rattle.wait_list.specs.Waiting.{waiting_after, waiting_lines}
use Rattle.wait_list.proofs.waiting.collect_lines.Given as goal

abbrev pub invariant-loop-entry : goal.invariant-loop-entry
invariant-loop-entry l = record {
  lines : waiting_after l.book.book l.lines.items (drop l.entry-index l.history) ≡ waiting_lines l.book.book l.history;
  few : length l.lines.items ≤ l.entry-index;
  spelled : All (LineFits l.book.book.declaration.season) l.lines.items;
}
