-- What is kept from node to node. Contracts of private functions alone cite this.
use Rattle.std.specs.Prelude.{ℕ, List, [], ◌∷◌}
use Rattle.choice_problem.specs.declared.vectors.Price.{Price}
use Rattle.choice_problem.specs.Problems.{ProblemView}
use Rattle.cert_checker.specs.declared.states.State.{State}
use Rattle.kept_bounds.specs.Kept.{AreKept}
use Rattle.cert_checker.specs.Loads.{IsLoadState}

-- bounds and loads are kept for these ranges
pub record IsState (p : ProblemView) (vectors : List (List Price)) (ranges : List (ℕ × ℕ))
    (s : State) : Type 0 where
  pub bounds : AreKept p vectors ranges s.changes.items s.bounds
  pub loads : IsLoadState p ranges s.changes.items s.loads

-- for the first of the pending ranges, if there are any
abbrev pub IsStateFirst : ProblemView → List (List Price) → List (List (ℕ × ℕ)) → State → Type 0
IsStateFirst p vectors [] s = Unit {0}
IsStateFirst p vectors (ranges ∷ rest) s = IsState p vectors ranges s
