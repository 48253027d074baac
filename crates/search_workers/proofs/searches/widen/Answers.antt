use Rattle.std.proofs.Common.{rules, ◌≡◌, ◌≤◌, ◌∷◌, [], ℕ, List, length, take, refl, sym, arith, inl, inr}
use Rattle.std.specs.Prelude.{slice_index_or}
use Rattle.choice_problem.specs.Bounds.{whole_of}
use Rattle.choice_problem.specs.Grafts.{open_ranges}
use Rattle.choice_problem.specs.Trees.{IsWhole}
use Rattle.search_workers.specs.Settings.{Drives}
use Rattle.search_workers.proofs.GraftLemmas.{open_there}
use Rattle.search_workers.proofs.JoinedLemmas.{first-undone, head-undone}
use Rattle.search_workers.proofs.FinishLemmas.{so_far_wider}
use Rattle.search_workers.proofs.searches.widen.Goals as goal

pub returns-clause-so_far : goal.returns-clause-so_far
returns-clause-so_far c =
    let s = c.args.task.now in
    let state = c.args.state.now in
    so_far_wider s c.add.new.self state.cost state.best state.tree.items c.add.ensures.wider c.known.ensures c.known-2.ensures c.requires.so_far
    (λ vectors more h. c.driven_tree.ensures.more s.problem vectors more state.cost state.tree.items h)
    (λ one other h k. c.search_start.ensures.one_cost s.problem one other h k)
    (λ one other h k. c.search_start.ensures.one_vector s.problem (whole_of s.problem) one other h k)

pub returns-clause-joined : goal.returns-clause-joined
returns-clause-joined c =
    let s = c.args.task.now in
    let p = s.problem in
    let tree = c.args.state.now.tree.items in
    let undone : List (List (ℕ × ℕ)) = open_ranges (whole_of p ∷ []) tree in
    let ranges : List (ℕ × ℕ) = c.index.result.now in
    let not_whole : IsWhole tree → ⊥ = search rules in
    let some : 1 ≤ length undone = open_there (λ r node. Drives s r node) (whole_of p ∷ []) tree c.requires.so_far.driven.trees not_whole in
    let first : c.in_ok-pieces.pieces.items ≡ take 1 undone = c.in_ok-pieces.ensures.first in
    let here : slice_index_or (take 1 undone) 0 ranges ≡ ranges = rw first at (sym c.index.ensures) in
    let one = first-undone undone ranges some here in
    inl (
      c.in_ok-vector.vector,
      record {
        visits_left = omega (arith, c.if-taken-budget.false, c.requires.count);
        first = ranges;
        others = one.0;
        undone = one.1;
        vector_is = rw c.problem.ensures at c.in_ok-vector.ensures.node;
      },
      c.in_ok-add.ensures.joined,
    )

pub returns-then-is_full-clause-joined : goal.returns-then-is_full-clause-joined
returns-then-is_full-clause-joined c =
    let s = c.args.task.now in
    let p = s.problem in
    let tree = c.args.state.now.tree.items in
    let undone : List (List (ℕ × ℕ)) = open_ranges (whole_of p ∷ []) tree in
    let not_whole : IsWhole tree → ⊥ = search rules in
    let some : 1 ≤ length undone = open_there (λ r node. Drives s r node) (whole_of p ∷ []) tree c.requires.so_far.driven.trees not_whole in
    let full : 64 ≤ length s.vectors = search rules in
    let one = head-undone undone some in
    let v = c.node_vector_exists.ensures p one.0 in
    inl (
      v.0,
      record {
        visits_left = omega (arith, c.if-taken-budget.false, c.requires.count);
        first = one.0;
        others = one.1;
        undone = one.2;
        vector_is = v.1;
      },
      inr ((λ h. absurd (omega (arith, full, h.few))), refl),
    )

pub returns-then-is_whole-clause-joined : goal.returns-then-is_whole-clause-joined
returns-then-is_whole-clause-joined c = inr ((λ lt. search rules), refl)

pub returns-then-taken-budget-clause-joined : goal.returns-then-taken-budget-clause-joined
returns-then-taken-budget-clause-joined c = inr ((λ lt. absurd (omega (arith, lt, c.if-taken-budget.true, c.requires.count))), refl)
