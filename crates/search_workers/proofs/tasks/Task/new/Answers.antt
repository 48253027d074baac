use Rattle.search_workers.proofs.TaskLemmas.{tables_new}
use Rattle.search_workers.proofs.tasks.Task.new.Goals as goal

pub invariant_of-result : goal.invariant_of-result
invariant_of-result c =
    let r = c.in_ok-tables.ensures.root in
    rw c.requires.walk (tables_new c.args.problem.now c.args.greedy r.0 c.in_ok-tables.tables.items c.args.further.now c.count_prices.result c.requires.greedy r.1 r.2
    c.in_ok-tables.ensures.valid r.3 c.requires.further c.count_prices.ensures)
