use Rattle.std.proofs.Common.{◌≡◌, take}
use Rattle.search_workers.specs.Outcomes.{price_count}
use Rattle.search_workers.proofs.tasks.count_prices.Given as goal

abbrev pub invariant-loop-vector : goal.invariant-loop-vector
invariant-loop-vector l = l.count ≡ price_count (take l.vector-index l.vectors)
