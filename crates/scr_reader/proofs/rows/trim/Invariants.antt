use Rattle.std.proofs.Common.{◌≡◌, ◌≤◌, take}
use Rattle.scr_reader.specs.Rows.{trimmed}
use Rattle.scr_reader.proofs.rows.trim.Given as goal

abbrev pub invariant-loop-i : goal.invariant-loop-i
invariant-loop-i l = record { within : l.end ≤ l.i; trimmed_so_far : trimmed (take l.i l.line) ≡ take l.end l.line }
