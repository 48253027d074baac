-- All vectors of a search: those of its start, and one of each round.
use Rattle.std.proofs.Common.{◌≡◌, ℕ, ◌<◌, ◌≤◌, List, [], ◌∷◌, ◌++◌, length, take, drop, refl, sym, ◌∙◌, ap, subst, arith, inl, inr, append_assoc}
use Rattle.std.specs.Prelude.{slice_index_or}
use Rattle.choice_problem.specs.declared.vectors.Price.{Price}
use Rattle.choice_problem.specs.declared.nodes.Node.{Node}
use Rattle.choice_problem.specs.Problems.{ProblemView}
use Rattle.choice_problem.specs.Trees.{node_count}
use Rattle.choice_problem.specs.Roots.{IsRootVector}
use Rattle.search_workers.specs.Outcomes.{AreJoined, AreAllOf, AreNamedOf}
use Rattle.search_workers.specs.Outcomes.{IsSettled}
use Rattle.search_workers.specs.Rounds.{IsRoundJoined, AreSoFarJoined, ListsAll}
use Rattle.search_workers.specs.declared.outcomes.Outcome.{Outcome}
use Rattle.search_workers.specs.declared.outcomes.Outcome.TheVariants as answer

-- no round has ended
pub joined-none : (p : ProblemView) (budget nodes : ℕ) (vectors : List (List Price)) → AreSoFarJoined p budget nodes vectors vectors
joined-none p budget nodes vectors = record { rounds = []; last = 0; within = omega arith; goes_on = λ more after h. h }

-- one round more
pub joined-more : (p : ProblemView) (budget before : ℕ) (vectors now next : List (List Price)) (tree : List Node) → before < node_count tree →
    AreSoFarJoined p budget before vectors now → IsRoundJoined p budget tree now next → AreSoFarJoined p budget (node_count tree) vectors next
joined-more p budget before vectors now next tree rose j r = elim r [
  | inl v ↦ record {
    rounds = j.rounds ++ tree ∷ [];
    last = node_count tree;
    within = omega arith;
    goes_on = λ more after h.
        let lt : j.last < node_count tree = omega (arith, rose, j.within) in
        subst (λ (l : List (List Node)). AreJoined p budget 0 vectors l after) (sym (append_assoc j.rounds (tree ∷ []) more))
        (j.goes_on (tree ∷ more) after (lt, (v.0, next, v.1, v.2, h)));
  }
  | inr none ↦ record {
    rounds = j.rounds;
    last = j.last;
    within = omega (arith, rose, j.within);
    goes_on = λ more after h. j.goes_on more after (subst (λ (l : List (List Price)). AreJoined p budget j.last l more after) none.1 h);
  }
]

first-and-rest : (vectors given : List (List Price)) → 1 ≤ length vectors → drop 1 vectors ≡ given → vectors ≡ slice_index_or vectors 0 [] ∷ given
first-and-rest [] given some e = absurd (omega arith)
first-and-rest (v ∷ vectors) given some e = ap (λ (l : List (List Price)). v ∷ l) e

-- all vectors, where the first one and those that were handed in begin the list
pub all-of : (p : ProblemView) (given was more now : List (List Price)) (budget nodes : ℕ) → IsRootVector p (slice_index_or was 0 []) → 1 ≤ length was →
    drop 1 was ≡ given → now ≡ was ++ more → AreSoFarJoined p budget nodes was now → AreAllOf p given budget now
all-of p given was more now budget nodes root some rest e j =
    let is : was ≡ slice_index_or was 0 [] ∷ given = first-and-rest was given some rest in
    record {
      root = slice_index_or was 0 [];
      root_is = root;
      more = more;
      begins = e ∙ ap (λ (l : List (List Price)). l ++ more) is;
      rounds = j.rounds ++ [];
      joined = subst (λ (l : List (List Price)). AreJoined p budget 0 l (j.rounds ++ []) now) is (j.goes_on [] now refl);
    }

append-none : (vectors : List (List Price)) → vectors ++ [] ≡ vectors
append-none [] = refl
append-none (v ∷ vectors) = ap (λ (l : List (List Price)). v ∷ l) (append-none vectors)

-- no round was made
pub all-none : (p : ProblemView) (given : List (List Price)) (budget : ℕ) (root : List Price) → IsRootVector p root → AreAllOf p given budget (root ∷ given)
all-none p given budget root is = record {
  root = root;
  root_is = is;
  more = [];
  begins = sym (append-none (root ∷ given));
  rounds = [];
  joined = refl;
}

-- none of them is named
pub named-none : (p : ProblemView) (given : List (List Price)) (budget : ℕ) (root : List Price) (tree : List Node) → IsRootVector p root → AreNamedOf p given budget [] tree
named-none p given budget root tree is = record {
  all = root ∷ given;
  all_of = all-none p given budget root is;
  behind = root ∷ given;
  first = refl;
  last = inl refl;
}

-- the first one of ranges that were taken
pub first-undone : (undone : List (List (ℕ × ℕ))) (ranges : List (ℕ × ℕ)) → 1 ≤ length undone → slice_index_or (take 1 undone) 0 ranges ≡ ranges →
    (others : List (List (ℕ × ℕ))) × (undone ≡ ranges ∷ others)
first-undone [] ranges some e = absurd (omega arith)
first-undone (r ∷ others) ranges some e = (others, ap (λ (x : List (ℕ × ℕ)). x ∷ others) e)

pub head-undone : (undone : List (List (ℕ × ℕ))) → 1 ≤ length undone → (first : List (ℕ × ℕ)) × (others : List (List (ℕ × ℕ))) × (undone ≡ first ∷ others)
head-undone [] some = absurd (omega arith)
head-undone (r ∷ others) some = (r, others, refl)

-- where no node is undone, nothing is asked of the list
pub lists-settled : (all : List (List Price)) (o : Outcome) → IsSettled o → ListsAll all o
lists-settled all (answer.Optimal choice cost tree vectors) s = tt
lists-settled all (answer.Infeasible tree vectors) s = tt
lists-settled all (answer.Spent best tree vectors) s = absurd s
