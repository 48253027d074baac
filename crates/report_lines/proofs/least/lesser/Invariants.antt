use Rattle.std.proofs.Common.{take}
use Rattle.report_lines.specs.Private.{KeepsLesser}
use Rattle.report_lines.proofs.least.lesser.Given as goal

abbrev pub invariant-loop-one : goal.invariant-loop-one
invariant-loop-one l = KeepsLesser l.counts (take l.one-index l.used) l.kept.items
