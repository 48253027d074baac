use Rattle.std.proofs.Common.{◌≡◌, ◌+◌, drop}
use Rattle.report_lines.specs.Words.{name_from, name_of}
use Rattle.report_lines.proofs.names.name_of.Given as goal

abbrev pub invariant-loop-line : goal.invariant-loop-line
invariant-loop-line l = name_from l.windows (l.line + 1) (drop l.line l.windows.rules) l.rest ≡ name_of l.windows l.resource
