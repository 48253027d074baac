use Rattle.holding_book.proofs.steps.step_of.Goals as goal

pub returns-in_ok-step-in-Query-clause-step : goal.returns-in_ok-step-in-Query-clause-step
returns-in_ok-step-in-Query-clause-step c = rw c.in-Query.is (c.in_ok-step-in-Query.ensures c.args.loads.now.declaration)
