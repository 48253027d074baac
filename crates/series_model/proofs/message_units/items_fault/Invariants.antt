use Rattle.std.proofs.Common.{◌≡◌, drop}
use Rattle.series_model.specs.Submissions.{items_fault}
use Rattle.series_model.proofs.message_units.items_fault.Given as goal

abbrev pub invariant-loop-placed : goal.invariant-loop-placed
invariant-loop-placed l = items_fault (drop l.placed-index l.items) ≡ items_fault l.items
