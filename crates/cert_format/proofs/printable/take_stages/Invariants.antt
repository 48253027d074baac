use Rattle.std.proofs.Common.{◌≡◌, ◌+◌, take}
use Rattle.std.specs.Prelude.{sum_by}
use Rattle.cert_format.specs.Private.Ranges.{stage_line_count}
use Rattle.cert_format.proofs.printable.take_stages.Given as goal

abbrev pub invariant-loop-stage : goal.invariant-loop-stage
invariant-loop-stage l = l.left + sum_by stage_line_count (take l.stage-index l.stages) ≡ l.fn.room
