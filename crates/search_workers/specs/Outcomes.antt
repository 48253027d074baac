-- What a search of a problem answers.
use Rattle.std.specs.Prelude.{◌≡◌, ℕ, ◌+◌, ◌*◌, ◌<◌, ◌≤◌, List, [], ◌∷◌, ◌++◌, map, drop, length, slice_index_or, sum_by, All, Contains, ◌⊎◌, Option, Some, None}
use Rattle.choice_problem.specs.declared.vectors.Price.{Price}
use Rattle.choice_problem.specs.declared.vectors.TheConstants.{MOST_FURTHER, MOST_VECTORS, MOST_PRICES}
use Rattle.choice_problem.specs.declared.nodes.Node.{Node}
use Rattle.choice_problem.specs.Problems.{ProblemView, ChooserView}
use Rattle.choice_problem.specs.Choices.{IsFeasible, IsBest, HasNone, choice_cost}
use Rattle.choice_problem.specs.Bounds.{IsVector, whole_of}
use Rattle.choice_problem.specs.Trees.{IsSound, IsWhole, node_count, vector_at}
use Rattle.choice_problem.specs.Driven.{IsDriven}
use Rattle.choice_problem.specs.Grafts.{open_ranges}
use Rattle.choice_problem.specs.Named.{Names}
use Rattle.choice_problem.specs.Roots.{IsRootVector, IsNodeVector}
use Rattle.search_workers.specs.declared.outcomes.Outcome.{Outcome}
use Rattle.search_workers.specs.declared.outcomes.Outcome.TheVariants.{Optimal, Infeasible, Spent}

-- a best choice is feasible and has the cost; without a cost there is none
abbrev pub IsBestFound : ProblemView → Option ℕ → Option (List ℕ) → Type 0
IsBestFound p None None = Unit {0}
IsBestFound p (Some cost) (Some x) = IsFeasible p x × (choice_cost p x ≡ cost)
IsBestFound p None (Some x) = ⊥
IsBestFound p (Some cost) None = ⊥

-- how many prices these vectors have together
abbrev pub price_count : List (List Price) → ℕ
price_count vectors = sum_by (λ (prices : List Price). length prices) vectors

-- vectors that a caller may hand in
pub record AreFurther (p : ProblemView) (vectors : List (List Price)) : Type 0 where
  pub few : length vectors ≤ MOST_FURTHER
  pub each : All (IsVector p) vectors
  pub few_prices : price_count vectors ≤ MOST_PRICES

-- at most 64 vectors for the problem, of which the first is the root vector and the others together
-- have at most 1,000,000 prices. Those that were handed in follow the root vector, as far as the
-- list goes
pub record AreListed (p : ProblemView) (given vectors : List (List Price)) : Type 0 where
  pub few : length vectors ≤ MOST_VECTORS
  pub each : All (IsVector p) vectors
  pub root : 0 < length vectors → IsRootVector p (vector_at vectors 1)
  pub few_prices : price_count (drop 1 vectors) ≤ MOST_PRICES
  pub handed_in : (k : ℕ) → k < length given → k + 1 < length vectors →
      slice_index_or vectors (k + 1) [] ≡ slice_index_or given k []

-- the tree is driven and sound for the cost of the best choice that was found
pub record IsSearched (p : ProblemView) (given vectors : List (List Price)) (cost : Option ℕ)
    (best : Option (List ℕ)) (tree : List Node) : Type 0 where
  pub found : IsBestFound p cost best
  pub driven : IsDriven p vectors cost tree
  pub sound : IsSound p vectors cost (whole_of p) tree
  pub listed : AreListed p given vectors

-- there are no vectors behind the last one that a leaf of the tree names
abbrev pub EndsAtNamed : List (List Price) → List Node → Type 0
EndsAtNamed vectors tree = (length vectors ≡ 0)
    ⊎ ((leaf : Node) × Contains tree leaf × Names (length vectors) leaf)

-- ---- all vectors of a search

-- one vector more is within the limits of a list
pub record HasRoomFor (vectors : List (List Price)) (vector : List Price) : Type 0 where
  pub some : 0 < length vector
  pub few : length vectors < MOST_VECTORS
  pub few_prices : price_count (drop 1 vectors) + length vector ≤ MOST_PRICES

-- the vector stands behind the others, or it is empty or there is no room for it
abbrev pub IsJoinedBy : List (List Price) → List Price → List (List Price) → Type 0
IsJoinedBy vectors vector after = (HasRoomFor vectors vector × (after ≡ vectors ++ vector ∷ []))
    ⊎ ((HasRoomFor vectors vector → ⊥) × (after ≡ vectors))

-- a round that ended with this tree, of fewer visits than the budget and with undone nodes, gives
-- the vector of the first of these
pub record IsRoundVector (p : ProblemView) (budget : ℕ) (tree : List Node)
    (vector : List Price) : Type 0 where
  pub visits_left : node_count tree < budget
  pub first : List (ℕ × ℕ)
  pub others : List (List (ℕ × ℕ))
  pub undone : open_ranges (whole_of p ∷ []) tree ≡ first ∷ others
  pub vector_is : IsNodeVector p first vector

-- the list after all rounds that ended with these trees, each of more nodes than the one before:
-- each of them was joined by its vector
abbrev pub AreJoined : ProblemView → ℕ → ℕ → List (List Price) → List (List Node) →
    List (List Price) → Type 0
AreJoined p budget nodes vectors [] after = after ≡ vectors
AreJoined p budget nodes vectors (tree ∷ trees) after = (nodes < node_count tree)
    × ((vector : List Price) × (next : List (List Price)) × IsRoundVector p budget tree vector
    × IsJoinedBy vectors vector next × AreJoined p budget (node_count tree) next trees after)

-- all vectors of a search: the root vector, those that were handed in, and one of each round
pub record AreAllOf (p : ProblemView) (given : List (List Price)) (budget : ℕ)
    (vectors : List (List Price)) : Type 0 where
  pub root : List Price
  pub root_is : IsRootVector p root
  pub more : List (List Price)
  pub begins : vectors ≡ (root ∷ given) ++ more
  pub rounds : List (List Node)
  pub joined : AreJoined p budget 0 (root ∷ given) rounds vectors

-- the vectors of a search up to the last one that a leaf of the tree names
pub record AreNamedOf (p : ProblemView) (given : List (List Price)) (budget : ℕ)
    (vectors : List (List Price)) (tree : List Node) : Type 0 where
  pub all : List (List Price)
  pub all_of : AreAllOf p given budget all
  pub behind : List (List Price)
  pub first : all ≡ vectors ++ behind
  pub last : EndsAtNamed vectors tree

-- What a search with a budget of visits answers. Best and none: the whole tree proves it, and the
-- vectors are listed that it names. Spent: as many visits were made as the budget has, and some
-- node is undone; all vectors of the search are listed
abbrev pub IsOutcome : ProblemView → List (List Price) → ℕ → Outcome → Type 0
IsOutcome p given budget (Optimal choice cost tree vectors) =
    IsSearched p given vectors (Some cost) (Some choice) tree × IsWhole tree
    × (node_count tree ≤ budget) × AreNamedOf p given budget vectors tree × IsBest p choice
IsOutcome p given budget (Infeasible tree vectors) =
    IsSearched p given vectors None None tree × IsWhole tree
    × (node_count tree ≤ budget) × AreNamedOf p given budget vectors tree × HasNone p
IsOutcome p given budget (Spent best tree vectors) =
    ((cost : Option ℕ) × IsSearched p given vectors cost best tree) × (node_count tree ≡ budget)
    × (IsWhole tree → ⊥) × (1 ≤ budget → AreAllOf p given budget vectors)

-- the problem was searched whole
abbrev pub IsSettled : Outcome → Type 0
IsSettled (Optimal choice cost tree vectors) = Unit {0}
IsSettled (Infeasible tree vectors) = Unit {0}
IsSettled (Spent best tree vectors) = ⊥

-- a choice was found that costs at most this
abbrev pub HasAtMost : ProblemView → ℕ → Option (List ℕ) → Type 0
HasAtMost p most None = ⊥
HasAtMost p most (Some x) = choice_cost p x ≤ most

abbrev pub OutcomeCostsAtMost : ProblemView → ℕ → Outcome → Type 0
OutcomeCostsAtMost p most (Optimal choice cost tree vectors) = cost ≤ most
OutcomeCostsAtMost p most (Infeasible tree vectors) = ⊥
OutcomeCostsAtMost p most (Spent best tree vectors) = HasAtMost p most best

abbrev pub product_of : List ℕ → ℕ
product_of [] = 1
product_of (n ∷ ns) = n * product_of ns

-- how many choices the problem has, feasible or not
abbrev pub choice_count : ProblemView → ℕ
choice_count p = product_of (map (λ (m : ChooserView). length m.alts) p.units)
