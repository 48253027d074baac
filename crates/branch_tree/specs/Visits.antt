-- What a visit of ranges answers: the first of its cases that applies.
use Rattle.std.specs.Prelude.{◌≡◌, ℕ, ◌+◌, ◌<◌, List, [], length, slice_index_or, Option, Some, ◌⊎◌}
use Rattle.choice_problem.specs.declared.closing.TheConstants.{PRICED_SCALE}
use Rattle.choice_problem.specs.declared.vectors.Price.{Price}
use Rattle.choice_problem.specs.declared.nodes.Node.{Node}
use Rattle.choice_problem.specs.declared.nodes.Node.TheVariants as node
use Rattle.choice_problem.specs.Problems.{ProblemView, resource_count}
use Rattle.choice_problem.specs.Choices.{IsFeasible, choice_cost}
use Rattle.choice_problem.specs.Bounds.{Closes, IsOver}
use Rattle.choice_problem.specs.Trees.{CanSplit}
use Rattle.choice_problem.specs.Splits.{StaysOpen, IsCheapest, IsFirstOver, IsSplitAt}
use Rattle.branch_tree.specs.declared.answers.Visit.{Visit}
use Rattle.branch_tree.specs.declared.answers.Visit.TheVariants as answer

-- the first n of these vectors do not close the ranges at scale 1024
abbrev pub AreOpen : ProblemView → List (List Price) → ℕ → List (ℕ × ℕ) → Option ℕ → Type 0
AreOpen p vectors n ranges seen = (k : ℕ) → k < n →
    Closes p ranges (slice_index_or vectors k []) PRICED_SCALE seen → ⊥

-- the first of these vectors that closes the ranges
pub record IsFirstClosing (p : ProblemView) (vectors : List (List Price)) (ranges : List (ℕ × ℕ))
    (seen : Option ℕ) (k : ℕ) : Type 0 where
  pub there : k < length vectors
  pub closes : Closes p ranges (slice_index_or vectors k []) PRICED_SCALE seen
  pub first : AreOpen p vectors k ranges seen

-- the ranges stay open at a visit, and no further vector closes them
pub record StaysOpenToAll (p : ProblemView) (root : List Price) (further : List (List Price))
    (ranges : List (ℕ × ℕ)) (seen : Option ℕ) : Type 0 where
  pub stays_open : StaysOpen p root ranges seen
  pub no_further : AreOpen p further (length further) ranges seen

-- vector 0 closes
pub record IsZeroLeaf (p : ProblemView) (ranges : List (ℕ × ℕ)) (seen : Option ℕ)
    (vector scale : ℕ) : Type 0 where
  pub vector_is : vector ≡ 0
  pub scale_is : scale ≡ 1
  pub closes : Closes p ranges [] 1 seen

-- vector 0 does not close, and vector 1 does, the root vector
pub record IsRootLeaf (p : ProblemView) (root : List Price) (ranges : List (ℕ × ℕ))
    (seen : Option ℕ) (vector scale : ℕ) : Type 0 where
  pub vector_is : vector ≡ 1
  pub scale_is : scale ≡ PRICED_SCALE
  pub no_zero : Closes p ranges [] 1 seen → ⊥
  pub closes : Closes p ranges root PRICED_SCALE seen

-- neither closes, and this is the first further vector that does; they are numbered from 2
pub record IsFurtherLeaf (p : ProblemView) (root : List Price) (further : List (List Price))
    (ranges : List (ℕ × ℕ)) (seen : Option ℕ) (vector scale : ℕ) : Type 0 where
  pub place : ℕ
  pub vector_is : vector ≡ place + 2
  pub scale_is : scale ≡ PRICED_SCALE
  pub no_zero : Closes p ranges [] 1 seen → ⊥
  pub no_root : Closes p ranges root PRICED_SCALE seen → ⊥
  pub closes : IsFirstClosing p further ranges seen place

-- the leaf of the first vector that closes the ranges for what was seen
abbrev pub IsClosingLeaf : ProblemView → List Price → List (List Price) → List (ℕ × ℕ) → Option ℕ →
    Node → Type 0
IsClosingLeaf p root further ranges seen (node.Leaf vector scale recorded) =
    (recorded ≡ seen) × (IsZeroLeaf p ranges seen vector scale
    ⊎ (IsRootLeaf p root ranges seen vector scale
    ⊎ IsFurtherLeaf p root further ranges seen vector scale))
IsClosingLeaf p root further ranges seen (node.Over r) = ⊥
IsClosingLeaf p root further ranges seen (node.Split unit cut recorded) = ⊥
IsClosingLeaf p root further ranges seen node.Undone = ⊥

-- no resource's least load is above its limit
abbrev pub NoneOver : ProblemView → List (ℕ × ℕ) → Type 0
NoneOver p ranges = (r : ℕ) → r < resource_count p → IsOver p ranges r → ⊥

-- nothing that goes without prices closes the ranges: no resource is over, and vector 0 does not
-- close
pub record NeedsPrices (p : ProblemView) (ranges : List (ℕ × ℕ)) (seen : Option ℕ) : Type 0 where
  pub none_over : NoneOver p ranges
  pub no_zero : Closes p ranges [] 1 seen → ⊥

-- the closing leaf: of the lowest resource that is over, where there is one, and else of the first
-- vector that closes
abbrev pub ClosesBy : ProblemView → List Price → List (List Price) → List (ℕ × ℕ) → Option ℕ →
    Node → Type 0
ClosesBy p root further ranges seen (node.Over r) = IsFirstOver p ranges r
ClosesBy p root further ranges seen (node.Leaf vector scale recorded) =
    NoneOver p ranges × IsClosingLeaf p root further ranges seen (node.Leaf vector scale recorded)
ClosesBy p root further ranges seen (node.Split unit cut recorded) = ⊥
ClosesBy p root further ranges seen node.Undone = ⊥

-- the choice of each unit's first cheapest alternative fits, and its leaf is vector 0 at scale 1
-- with its cost
pub record IsFound (p : ProblemView) (ranges : List (ℕ × ℕ)) (x : List ℕ)
    (leaf : Node) : Type 0 where
  pub cheapest : IsCheapest p ranges x
  pub feasible : IsFeasible p x
  pub leaf_is : leaf ≡ node.Leaf 0 1 (Some (choice_cost p x))

-- it does not fit, and the split rule names the unit and the cut
pub record IsSplit (p : ProblemView) (ranges : List (ℕ × ℕ)) (unit cut : ℕ) : Type 0 where
  pub within : CanSplit ranges unit cut
  pub x : List ℕ
  pub resource : ℕ
  pub cheapest : IsCheapest p ranges x
  pub split : IsSplitAt p ranges x resource unit cut

abbrev pub IsFoundOrSplit : ProblemView → List (ℕ × ℕ) → Visit → Type 0
IsFoundOrSplit p ranges (answer.Close leaf) = ⊥
IsFoundOrSplit p ranges (answer.Found x leaf) = IsFound p ranges x leaf
IsFoundOrSplit p ranges (answer.Split unit cut) = IsSplit p ranges unit cut

-- the answer of a visit with what was seen, the root vector and further vectors: the first case
-- that applies
abbrev pub IsVisit : ProblemView → List Price → List (List Price) → List (ℕ × ℕ) → Option ℕ →
    Visit → Type 0
IsVisit p root further ranges seen (answer.Close leaf) = ClosesBy p root further ranges seen leaf
IsVisit p root further ranges seen (answer.Found x leaf) =
    StaysOpenToAll p root further ranges seen × IsFound p ranges x leaf
IsVisit p root further ranges seen (answer.Split unit cut) =
    StaysOpenToAll p root further ranges seen × IsSplit p ranges unit cut
