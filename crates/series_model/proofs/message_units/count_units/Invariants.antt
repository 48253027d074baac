use Rattle.std.proofs.Common.{◌≡◌, take}
use Rattle.series_model.specs.Submissions.{item_count}
use Rattle.series_model.proofs.message_units.count_units.Given as goal

abbrev pub invariant-loop-message : goal.invariant-loop-message
invariant-loop-message l = l.count ≡ item_count (take l.message-index l.messages)
