-- The test of a tree.
use Rattle.std.proofs.Common.{◌≡◌, ℕ, zero, suc, ◌+◌, ◌<◌, ◌≤◌, sym, refl, subst, arith, List, [], ◌∷◌, length, get_or, drop, take, Option}
use Rattle.std.specs.Prelude.{All}
use Rattle.std.proofs.lemmas.List.{drop_more, take_all}
use Rattle.choice_problem.specs.declared.nodes.Node.{Node}
use Rattle.choice_problem.specs.declared.vectors.Price.{Price}
use Rattle.choice_problem.specs.Problems.{ProblemView}
use Rattle.choice_problem.specs.Trees.{AreSound, IsWhole}

nothing-left : (nodes : List Node) (i : ℕ) → length nodes ≤ i → drop i nodes ≡ []
nothing-left [] zero past = refl
nothing-left [] (suc i) past = refl
nothing-left (node ∷ nodes) zero past = absurd (omega arith)
nothing-left (node ∷ nodes) (suc i) past = nothing-left nodes i (omega arith)

-- what holds of all that were taken, where all were
pub all-taken : (P : List Price → Type 0) (xs : List (List Price)) (n : ℕ) → length xs ≤ n → All P (take n xs) → All P xs
all-taken P xs n past all = subst (All P) (take_all n xs past) all

-- one node on
pub sound-next : (p : ProblemView) (vectors : List (List Price)) (cost : Option ℕ) (old new all : List (List (ℕ × ℕ))) (nodes : List Node) (i : ℕ) (d : Node) → i < length nodes →
    ((rest : List Node) → AreSound p vectors cost new rest → AreSound p vectors cost old (get_or nodes i d ∷ rest)) →
    (AreSound p vectors cost old (drop i nodes) → AreSound p vectors cost all nodes) →
    AreSound p vectors cost new (drop (i + 1) nodes) → AreSound p vectors cost all nodes
sound-next p vectors cost old new all nodes i d lt step before after =
    before (subst (λ (ns : List Node). AreSound p vectors cost old ns) (sym (drop_more nodes i d lt)) (step (drop (i + 1) nodes) after))

pub whole-next : (nodes : List Node) (i : ℕ) (d : Node) → i < length nodes → ((rest : List Node) → IsWhole rest → IsWhole (get_or nodes i d ∷ rest)) →
    (IsWhole (drop i nodes) → IsWhole nodes) → IsWhole (drop (i + 1) nodes) → IsWhole nodes
whole-next nodes i d lt step before after =
    before (subst IsWhole (sym (drop_more nodes i d lt)) (step (drop (i + 1) nodes) after))

-- the end
pub sound-end : (p : ProblemView) (vectors : List (List Price)) (cost : Option ℕ) (walk all : List (List (ℕ × ℕ))) (nodes : List Node) (i : ℕ) → length nodes ≤ i → walk ≡ [] →
    (AreSound p vectors cost walk (drop i nodes) → AreSound p vectors cost all nodes) → AreSound p vectors cost all nodes
sound-end p vectors cost walk all nodes i past done before =
    before (subst (λ (ns : List Node). AreSound p vectors cost walk ns) (sym (nothing-left nodes i past))
    (subst (λ (w : List (List (ℕ × ℕ))). AreSound p vectors cost w []) (sym done) tt))

pub whole-end : (nodes : List Node) (i : ℕ) → length nodes ≤ i → (IsWhole (drop i nodes) → IsWhole nodes) → IsWhole nodes
whole-end nodes i past before = before (subst IsWhole (sym (nothing-left nodes i past)) tt)
