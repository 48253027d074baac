use Rattle.std.proofs.Common.{◌≡◌, ◌++◌, take}
use Rattle.std.specs.List.{flat_map}
use Rattle.scr_replies.specs.Replies.{holding_answer}
use Rattle.scr_replies.proofs.asked.put_holdings.Given as goal

abbrev pub invariant-loop-holding : goal.invariant-loop-holding
invariant-loop-holding l = l.out.items ≡ l.initial.out.items ++ flat_map (holding_answer l.season) (take l.holding-index l.holdings)
