use Rattle.std.proofs.Common.{◌≡◌, drop}
use Rattle.series_model.specs.Submissions.{first_fault}
use Rattle.series_model.proofs.message_units.first_fault.Given as goal

abbrev pub invariant-loop-message : goal.invariant-loop-message
invariant-loop-message l = first_fault l.declaration (drop l.message-index l.messages) ≡ first_fault l.declaration l.messages
