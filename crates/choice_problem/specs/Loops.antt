-- Forms of loops: contracts of private functions alone cite them.
use Rattle.std.specs.Prelude.{ℕ, ◌≤◌, nat_le, nat_lt, ◌&&◌, if◌then◌else◌, List, [], ◌∷◌}
use Rattle.choice_problem.specs.declared.vectors.Price.{Price}
use Rattle.choice_problem.specs.declared.nodes.Node.{Node}
use Rattle.choice_problem.specs.declared.nodes.Node.TheVariants.{Split, Leaf, Over, Undone}
use Rattle.choice_problem.specs.Problems.{ProblemView}
use Rattle.choice_problem.specs.Bounds.{IsPrice}

-- one use of each resource of a run
abbrev pub run_uses : ℕ → ℕ → ℕ → ℕ
run_uses start end r = if nat_le start r && nat_lt r end then 1 else 0

-- a price of the problem whose resource is not below the next one that may come
pub record PriceFollows (p : ProblemView) (next : ℕ) (e : Price) : Type 0 where
  pub from : next ≤ e.resource
  pub price : IsPrice p e

-- the first of the pending ranges, where the node there is undone
abbrev pub opened : List (List (ℕ × ℕ)) → Node → List (List (ℕ × ℕ))
opened [] node = []
opened (ranges ∷ rest) (Split unit cut seen) = []
opened (ranges ∷ rest) (Leaf vector scale seen) = []
opened (ranges ∷ rest) (Over resource) = []
opened (ranges ∷ rest) Undone = ranges ∷ []
