use Rattle.std.proofs.Common.{take}
use Rattle.std.specs.List.{AllByRecursion}
use Rattle.cert_format.specs.Printable.{IsPrintableStage}
use Rattle.cert_format.proofs.printable.are_printable.Given as goal

abbrev pub invariant-loop-stage : goal.invariant-loop-stage
invariant-loop-stage l = AllByRecursion (IsPrintableStage l.version) (take l.stage-index l.stages)
