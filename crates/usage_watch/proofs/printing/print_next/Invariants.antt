use Rattle.std.proofs.Common.{◌≡◌, ◌++◌, drop}
use Rattle.slot_text.specs.Ended.{ended}
use Rattle.scr_reader.specs.Printed.{header_lines}
use Rattle.usage_watch.proofs.TextLemmas.{lines_text}
use Rattle.usage_watch.proofs.printing.print_next.Given as goal

abbrev pub invariant-loop-line : goal.invariant-loop-line
invariant-loop-line l =
    l.text.items ++ lines_text l.header.season (drop l.line-index l.lines)
    ≡ ended (header_lines l.header) ++ lines_text l.header.season l.lines
