use Rattle.std.proofs.Common.{◌≡◌, ◌+◌, ◌++◌, length, drop}
use Rattle.series_model.specs.Units.{units_of}
use Rattle.scr_replies.specs.SeasonReplies.{replies_from}
use Rattle.scr_replies.proofs.season.put_replies.Given as goal

abbrev pub invariant-loop-message : goal.invariant-loop-message
invariant-loop-message l = record {
  text : l.out.items ++ replies_from l.season (drop l.message-index l.messages) (drop l.next l.states) ≡ l.initial.out.items ++ replies_from l.season l.messages l.states;
  left : l.next + length (units_of (drop l.message-index l.messages)) ≡ length l.states;
}
