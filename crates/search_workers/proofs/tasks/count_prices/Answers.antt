use Rattle.std.proofs.Common.{List, [], length, arith}
use Rattle.std.proofs.lemmas.List.Sums.{sum_by_more_le}
use Rattle.choice_problem.specs.declared.vectors.Price.{Price}
use Rattle.search_workers.proofs.tasks.count_prices.Goals as goal

pub overflow_add-count : goal.overflow_add-count
overflow_add-count c =
    let more = sum_by_more_le (λ (prices : List Price). length prices) c.args.vectors.now c.loop-vector.vector-index [] c.loop-vector-test.true in
    omega (arith, more, c.loop-vector.invariant, c.requires)
