use Rattle.std.proofs.Common.{rules, ◌≡◌, ◌∷◌, ◌∙◌, [], inl, inr, arith, take}
use Rattle.std.proofs.lemmas.List.{take_all}
use Rattle.std.proofs.lemmas.Result.{IfOk-weaker}
use Rattle.choice_problem.specs.Bounds.{whole_of}
use Rattle.choice_problem.specs.Trees.{IsWhole, node_count}
use Rattle.search_workers.proofs.FinishLemmas.{searched_all}
use Rattle.search_workers.proofs.JoinedLemmas.{lists-settled}
use Rattle.search_workers.proofs.OpenLemmas.{grown_walks}
use Rattle.search_workers.proofs.OutcomeLemmas.{whole_costs}
use Rattle.search_workers.proofs.SizeLemmas.{alts_of, open_small}
use Rattle.search_workers.proofs.searches.finish.Goals as goal

pub returns-then-not-is_whole-clause-outcome : goal.returns-then-not-is_whole-clause-outcome
returns-then-not-is_whole-clause-outcome c =
    let s = c.args.task.now in
    let state = c.args.state in
    let tree = state.tree.items in
    let not_whole : IsWhole tree → ⊥ = search rules in
    let spent : node_count tree ≡ c.args.budget = elim c.requires.ended [ inl w ↦ absurd (not_whole w) | inr e ↦ e ] in
    let h = searched_all s state.cost state.best tree c.known.ensures c.requires.so_far
    (λ vectors d. c.driven_tree.ensures.sound s.problem vectors state.cost tree d) c.args._given.now c.requires.given in
    let all : take 64 s.vectors ≡ s.vectors = take_all 64 s.vectors c.known.ensures.few in
    rw (c.new-tree.ensures, c.in_ok-vectors.ensures)
    ((state.cost, h), spent, not_whole, λ _. rw all c.requires.all)

pub returns-then-not-is_whole-clause-settled : goal.returns-then-not-is_whole-clause-settled
returns-then-not-is_whole-clause-settled c = λ few.
    let s = c.args.task.now in
    let tree = c.args.state.tree.items in
    let not_whole : IsWhole tree → ⊥ = search rules in
    let spent : node_count tree ≡ c.args.budget = elim c.requires.ended [ inl w ↦ absurd (not_whole w) | inr e ↦ e ] in
    let small = open_small s.problem tree (alts_of s.problem c.requires.whole)
    (grown_walks s (whole_of s.problem ∷ []) tree c.requires.so_far.driven.trees) not_whole in
    absurd (omega (arith, spent, small, few))

pub returns-then-not-is_whole-clause-all : goal.returns-then-not-is_whole-clause-all
returns-then-not-is_whole-clause-all c =
    let s = c.args.task.now in
    c.in_ok-vectors.ensures ∙ take_all 64 s.vectors c.known.ensures.few

pub returns-clause-all : goal.returns-clause-all
returns-clause-all c = IfOk-weaker c.whole_outcome.result _ _ (λ o h. lists-settled c.args.task.now.vectors o h.1) c.whole_outcome.ensures

pub returns-clause-outcome : goal.returns-clause-outcome
returns-clause-outcome c = IfOk-weaker c.whole_outcome.result _ _ (λ o h. h.0) c.whole_outcome.ensures

pub returns-clause-settled : goal.returns-clause-settled
returns-clause-settled c = λ few. IfOk-weaker c.whole_outcome.result _ _ (λ o h. h.1) c.whole_outcome.ensures

pub returns-clause-start : goal.returns-clause-start
returns-clause-start c =
    IfOk-weaker c.whole_outcome.result _ _ (λ o h. λ x f a. whole_costs c.args.task.now.problem c.args._given.now c.args.budget o h.0 h.1 x f) c.whole_outcome.ensures
