use Rattle.std.proofs.Common.{◌≡◌, take}
use Rattle.std.specs.List.{filter_map}
use Rattle.holding_book.specs.Starts.{holding_of}
use Rattle.holding_book.proofs.start.start_holdings.Given as goal

abbrev pub invariant-loop-state : goal.invariant-loop-state
invariant-loop-state l = l.holdings.items ≡ filter_map holding_of (take l.state-index l.states)
