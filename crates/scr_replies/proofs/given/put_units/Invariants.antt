use Rattle.std.proofs.Common.{◌≡◌, ◌++◌, take}
use Rattle.std.specs.List.{flat_map}
use Rattle.scr_replies.specs.SeasonReplies.{unit_answer}
use Rattle.scr_replies.proofs.given.put_units.Given as goal

abbrev pub invariant-loop-state : goal.invariant-loop-state
invariant-loop-state l = l.out.items ≡ l.initial.out.items ++ flat_map (unit_answer l.season) (take l.state-index l.states)
