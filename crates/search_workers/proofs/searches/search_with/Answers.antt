use Rattle.std.proofs.lemmas.Result.{IfOk-weaker}
use Rattle.search_workers.proofs.FinishLemmas.{some_start}
use Rattle.search_workers.proofs.searches.search_with.Goals as goal

pub closed_at_once-requires-clause-closes : goal.closed_at_once-requires-clause-closes
closed_at_once-requires-clause-closes g c = λ root further.
    rw c.in_ok-walk.ensures.ranges at (c.in-Some.ensures.some root further)

pub returns-in-Some-clause-start : goal.returns-in-Some-clause-start
returns-in-Some-clause-start g c = λ some.
    IfOk-weaker c.closed_at_once.result _ _
    (λ o h. some_start c.args.problem.now c.args.start c.new-start.result.cost o c.requires.start c.new-start.ensures.other h)
    c.closed_at_once.ensures.start

pub returns-clause-start : goal.returns-clause-start
returns-clause-start g c = λ some.
    IfOk-weaker c.search_priced.result _ _
    (λ o h. some_start c.args.problem.now c.args.start c.new-start.result.cost o c.requires.start c.new-start.ensures.other h)
    c.search_priced.ensures.start
