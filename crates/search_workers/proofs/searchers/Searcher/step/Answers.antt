use Rattle.std.proofs.Common.{◌∷◌, ◌++◌, ◌∙◌, [], List, ℕ, sym, ap, subst, inl, inr, arith, reverse}
use Rattle.std.proofs.lemmas.List.{reverse-append}
use Rattle.incumbent_word.specs.declared.view.View.{View}
use Rattle.incumbent_word.specs.declared.view.Worker.{Worker}
use Rattle.search_workers.specs.Work.{IsWork}
use Rattle.search_workers.specs.Searchers.{made, IsBegun}
use Rattle.search_workers.proofs.EnterLemmas.{ahead_taken}
use Rattle.search_workers.proofs.searchers.Searcher.step.Goals as goal

pub returns-in_default-clause-share : goal.returns-in_default-clause-share
returns-in_default-clause-share g c = c.take.ensures.same.1

pub returns-in_default-clause-pieces : goal.returns-in_default-clause-pieces
returns-in_default-clause-pieces g c =
    let is = rw c.in_default.is at c.take.ensures.none in
    ap (λ (v : View). v.worker.pieces) is

pub returns-in_default-clause-work : goal.returns-in_default-clause-work
returns-in_default-clause-work g c =
    let is = rw c.in_default.is at c.take.ensures.none in
    let me = c.args.self.now in
    subst (λ (w : Worker). IsWork c.args.task.now w me.best (made me.done.items ++ c.args.growth.now.nodes.items)) (sym (ap (λ (v : View). v.worker) is)) c.requires.work

pub returns-in_default-clause-cost : goal.returns-in_default-clause-cost
returns-in_default-clause-cost g c =
    let is = rw c.in_default.is at c.take.ensures.none in
    c.requires.cost ∙ sym (ap (λ (v : View). v.worker.best) is)

pub returns-in_default-clause-marks : goal.returns-in_default-clause-marks
returns-in_default-clause-marks g c =
    let is = rw c.in_default.is at c.take.ensures.none in
    (λ m. ap (λ (v : View). v.no_number_left) is, ap (λ (v : View). v.no_piece_left) is)

pub returns-in_default-clause-goes_on : goal.returns-in_default-clause-goes_on
returns-in_default-clause-goes_on g c =
    let is = rw c.in_default.is at c.take.ensures.none in
    λ h. inl (ap (λ (v : View). v.no_number_left) is)

pub returns-in_default-clause-begun : goal.returns-in_default-clause-begun
returns-in_default-clause-begun g c =
    let is = rw c.in_default.is at c.take.ensures.none in
    inl (inl (ap (λ (v : View). v.no_number_left) is))

pub enter-requires-clause-work : goal.enter-requires-clause-work
enter-requires-clause-work g c =
    let me = c.args.self.now in
    ahead_taken c.args.task.now me.seat.view c.take.new.self.view _ me.best (made me.done.items ++ c.args.growth.now.nodes.items) c.requires.work c.in-Some.ensures.some.1 c.take.ensures.seen

pub enter-requires-clause-cost : goal.enter-requires-clause-cost
enter-requires-clause-cost g c = c.requires.cost ∙ sym (ap (λ (v : View). v.worker.best) c.in-Some.ensures.some.1)

pub enter-requires-clause-tree : goal.enter-requires-clause-tree
enter-requires-clause-tree g c =
    let rest = c.pop.new.self.items in
    subst (λ (l : List (List (ℕ × ℕ))). IsBegun c.args.task.now c.args._root.now c.args.growth.now.nodes.items l)
    (ap reverse c.in-Some-pop.ensures.items ∙ reverse-append rest (c.in-Some-pop.ranges ∷ [])) c.requires.tree

pub returns-in_err-enter-clause-share : goal.returns-in_err-enter-clause-share
returns-in_err-enter-clause-share g c = c.in_err-enter.ensures.share ∙ c.take.ensures.same.1

pub returns-in_err-enter-clause-pieces : goal.returns-in_err-enter-clause-pieces
returns-in_err-enter-clause-pieces g c = c.in_err-enter.ensures.pieces ∙ ap (λ (v : View). v.worker.pieces) c.in-Some.ensures.some.1

pub returns-in_err-enter-clause-marks : goal.returns-in_err-enter-clause-marks
returns-in_err-enter-clause-marks g c = (
  λ m. c.in_err-enter.ensures.marks.0 ∙ (ap (λ (v : View). v.no_number_left) c.in-Some.ensures.some.1 ∙ m),
  c.in_err-enter.ensures.marks.1 ∙ ap (λ (v : View). v.no_piece_left) c.in-Some.ensures.some.1,
)

pub returns-clause-share : goal.returns-clause-share
returns-clause-share g c = c.in_ok-enter.ensures.share ∙ c.take.ensures.same.1

pub returns-clause-pieces : goal.returns-clause-pieces
returns-clause-pieces g c = c.in_ok-enter.ensures.pieces ∙ ap (λ (v : View). v.worker.pieces) c.in-Some.ensures.some.1

pub returns-clause-marks : goal.returns-clause-marks
returns-clause-marks g c = (
  λ m. c.in_ok-enter.ensures.marks.0 ∙ (ap (λ (v : View). v.no_number_left) c.in-Some.ensures.some.1 ∙ m),
  c.in_ok-enter.ensures.marks.1 ∙ ap (λ (v : View). v.no_piece_left) c.in-Some.ensures.some.1,
)

pub returns-clause-goes_on : goal.returns-clause-goes_on
returns-clause-goes_on g c = λ h. inr (omega (arith, c.in_ok-enter.ensures.counted))

pub returns-clause-begun : goal.returns-clause-begun
returns-clause-begun g c = inl (inr (omega (arith, c.in_ok-enter.ensures.counted)))
