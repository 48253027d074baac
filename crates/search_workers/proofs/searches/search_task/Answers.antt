use Rattle.std.proofs.Common.{Some}
use Rattle.std.proofs.lemmas.Result.{IfOk-weaker}
use Rattle.choice_problem.specs.Choices.{choice_cost}
use Rattle.choice_problem.specs.Trees.{node_count}
use Rattle.search_workers.proofs.CostLemmas.{at_most_trans}
use Rattle.search_workers.proofs.FinishLemmas.{given_wider}
use Rattle.search_workers.proofs.JoinedLemmas.{all-of}
use Rattle.search_workers.proofs.searches.search_task.Goals as goal

pub returns-clause-start : goal.returns-clause-start
returns-clause-start g c =
    let p = c.args.task.now.problem in
    let start = c.args.start.cost in
    let one = c.in_ok-state.state.cost in
    let two = c.in_ok-state-2.state.cost in
    IfOk-weaker c.finish.result _ _
    (λ o h. λ x f a. let h' = rw c.in_ok-state-2.ensures.wider.problem at h in
    h' x f (at_most_trans two start (Some (choice_cost p x))
    (at_most_trans two one start c.in_ok-state-2.ensures.fell c.in_ok-state.ensures.fell) a))
    c.finish.ensures.start

pub finish-requires-clause-given : goal.finish-requires-clause-given
finish-requires-clause-given g c =
    given_wider c.args.task.now c.run.new.task c.args.further.now c.known.ensures.some c.in_ok-state-2.ensures.wider c.requires.further

pub returns-clause-outcome : goal.returns-clause-outcome
returns-clause-outcome g c = rw c.in_ok-state-2.ensures.wider.problem at c.finish.ensures.outcome

pub returns-clause-settled : goal.returns-clause-settled
returns-clause-settled g c = rw c.in_ok-state-2.ensures.wider.problem at c.finish.ensures.settled

pub finish-requires-clause-all : goal.finish-requires-clause-all
finish-requires-clause-all g c =
    let was = c.args.task.now in
    let w = c.in_ok-state-2.ensures.wider in
    rw w.problem (all-of was.problem c.args.further.now was.vectors w.more c.run.new.task.vectors c.args.budget (node_count c.in_ok-state-2.state.tree.items)
    c.known.ensures.root_is c.known.ensures.some c.requires.further w.vectors c.in_ok-state-2.ensures.joined)
