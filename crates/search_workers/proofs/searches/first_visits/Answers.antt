use Rattle.search_workers.proofs.CostLemmas.{at_most_trans}
use Rattle.std.proofs.lemmas.Result.{IfOk-weaker}
use Rattle.search_workers.proofs.searches.first_visits.Goals as goal

pub returns-clause-fell : goal.returns-clause-fell
returns-clause-fell c =
    IfOk-weaker c.open_parts.result _ _
    (λ r h. at_most_trans r.0.cost c.in_ok-state.state.cost c.args.start.cost h c.in_ok-state.ensures.fell)
    c.open_parts.ensures.fell
