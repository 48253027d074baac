-- A choice found by a visit.
use Rattle.std.proofs.Common.{◌≡◌, ℕ, ◌≤◌, List, [], refl, Option, Some, None, inl, inr}
use Rattle.std.proofs.lemmas.Bool.{cases_lt}
use Rattle.choice_problem.specs.declared.vectors.Price.{Price}
use Rattle.choice_problem.specs.declared.nodes.Node.{Node}
use Rattle.choice_problem.specs.declared.nodes.Node.TheVariants.{Leaf}
use Rattle.choice_problem.specs.Problems.{ProblemView}
use Rattle.choice_problem.specs.Choices.{choice_cost}
use Rattle.choice_problem.specs.Bounds.{Closes}
use Rattle.branch_tree.specs.declared.answers.Visit.{Visit}
use Rattle.branch_tree.specs.declared.answers.Visit.TheVariants as answer
use Rattle.branch_tree.specs.Visits.{IsVisit, IsFound, StaysOpenToAll}
use Rattle.search_workers.specs.Settings.{Setting, Drives, IsBelow, IsLook}

module _ (s : Setting) (ranges : List (ℕ × ℕ)) (seen : Option ℕ) (x : List ℕ) (leaf : Node)
    (smaller : (u v : ℕ) → v ≤ u → Closes s.problem ranges [] 1 (Some u) → Closes s.problem ranges [] 1 (Some v))
    (driven : IsFound s.problem ranges x leaf → Drives s ranges leaf) where
  below : (t : Option ℕ) → (Closes s.problem ranges [] 1 t → ⊥) → Closes s.problem ranges [] 1 (Some (choice_cost s.problem x)) → IsBelow (choice_cost s.problem x) t
  below None none closes = tt
  below (Some t) none closes = elim (cases_lt (choice_cost s.problem x) t) [
    | inl l ↦ l
    | inr m ↦ absurd (none (smaller (choice_cost s.problem x) t m closes))
  ]

  found_here : (root : List Price) (further : List (List Price)) → StaysOpenToAll s.problem root further ranges seen → IsFound s.problem ranges x leaf →
      IsLook s ranges seen leaf (Some x)
  found_here root further o f =
      let d : Drives s ranges leaf = driven f in
      let d' : Drives s ranges (Leaf 0 1 (Some (choice_cost s.problem x))) = rw f.leaf_is at d in
      record {
        driven = d;
        counted = rw f.leaf_is refl;
        choice = (f.feasible, below seen o.stays_open.no_zero d'.closes, f.leaf_is);
      }

  pub found_look : (p : ProblemView) (root : List Price) (further : List (List Price)) (visit : Visit) → IsVisit p root further ranges seen visit →
      visit ≡ answer.Found x leaf → p ≡ s.problem → IsLook s ranges seen leaf (Some x)
  found_look p root further visit v is e =
      let w : IsVisit p root further ranges seen (answer.Found x leaf) = rw is at v in
      let w' : IsVisit s.problem root further ranges seen (answer.Found x leaf) = rw e at w in
      found_here root further w'.0 w'.1
