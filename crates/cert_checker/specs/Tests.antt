-- What is tested of the lines of a stage, line by line, and what each test asks.
use Rattle.std.specs.Prelude.{◌≡◌, ℕ, suc, ◌<◌, List, [], ◌∷◌, ◌++◌, length, flat_map, Option, Some, None, IfSome, IsSome, IsNone, option_map}
use Rattle.choice_problem.specs.declared.vectors.Price.{Price}
use Rattle.choice_problem.specs.declared.nodes.Node.{Node}
use Rattle.choice_problem.specs.declared.nodes.Node.TheVariants.{Split, Leaf, Over, Undone}
use Rattle.choice_problem.specs.Problems.{ProblemView, unit_count, alt_count}
use Rattle.choice_problem.specs.Choices.{Fits, choice_cost}
use Rattle.choice_problem.specs.Bounds.{IsPrice, whole_of}
use Rattle.choice_problem.specs.Trees.{CanSplit, LeafHolds, OverHolds, IsTree, IsWhole, parts_of}
use Rattle.choice_problem.specs.Floors.{IsAtMost}
use Rattle.cost_fixing.specs.declared.fixings.Fixing.{Fixing}
use Rattle.cert_format.specs.declared.cert.Floor.{Floor}
use Rattle.cert_format.specs.declared.cert.Mark.{Mark}
use Rattle.cert_format.specs.declared.cert.Mark.TheVariants.{Optimal, Infeasible, Unsettled, NotTried}
use Rattle.cert_format.specs.declared.cert.StageCert.{StageCert}
use Rattle.cert_format.specs.Proofs.{IsStageFixing, problem_of_tree}
use Rattle.cert_checker.specs.declared.verdict.Reason.{Reason}
use Rattle.cert_checker.specs.declared.verdict.Reason.TheVariants as because

-- a test of one line, with what the lines above it determine: a unit's place, the resource before,
-- the ranges of a node
pub data Test : Type 0 where
  choice_marked : Test
  units_counted : Test
  alternative_there : ℕ → ℕ → Test
  cost_exact : Test
  choice_fits : Test
  bound_within : Test
  price_allowed : Option ℕ → Price → Test
  fixing_holds : Fixing → Test
  tree_shaped : Test
  tree_open : Test
  split_allowed : List (ℕ × ℕ) → ℕ → ℕ → Test
  leaf_closes : List (ℕ × ℕ) → ℕ → ℕ → Test
  over_closes : List (ℕ × ℕ) → ℕ → Test
  undone_allowed : Test
  floor_closes : List (ℕ × ℕ) → ℕ → ℕ → Test

-- the reason that a line is refused for
abbrev pub reason_of : Test → Reason
reason_of choice_marked = because.Mark
reason_of units_counted = because.Units
reason_of (alternative_there unit alt) = because.Choice
reason_of cost_exact = because.Cost
reason_of choice_fits = because.Fit
reason_of bound_within = because.Bound
reason_of (price_allowed before price) = because.Price
reason_of (fixing_holds f) = because.Fixing
reason_of tree_shaped = because.Shape
reason_of tree_open = because.Closed
reason_of (split_allowed ranges unit cut) = because.Split
reason_of (leaf_closes ranges vector scale) = because.Leaf
reason_of (over_closes ranges resource) = because.Over
reason_of undone_allowed = because.Undone
reason_of (floor_closes ranges vector scale) = because.Floor

-- ---- what each test asks, of a stage on its problem

-- an allotment under OPTIMAL, none under INFEASIBLE
abbrev pub HasChoice : Mark → Option (List ℕ) → Type 0
HasChoice Optimal choice = IsSome choice
HasChoice Infeasible choice = IsNone choice
HasChoice Unsettled choice = Unit {0}
HasChoice NotTried choice = Unit {0}

-- under OPEN some node is undone
abbrev pub HasUndone : Mark → List Node → Type 0
HasUndone Optimal nodes = Unit {0}
HasUndone Infeasible nodes = Unit {0}
HasUndone Unsettled nodes = IsWhole nodes → ⊥
HasUndone NotTried nodes = Unit {0}

-- a node may be undone under OPEN alone
abbrev pub MayBeUndone : Mark → Type 0
MayBeUndone Optimal = ⊥
MayBeUndone Infeasible = ⊥
MayBeUndone Unsettled = Unit {0}
MayBeUndone NotTried = ⊥

-- above the resource before it in its vector, if there is one
abbrev pub IsAbove : Option ℕ → ℕ → Type 0
IsAbove before resource = IfSome before (λ r. r < resource)

-- the nodes are tested on the problem that the fixing leaves, if there is one
abbrev pub Passes : ProblemView → StageCert → Test → Type 0
Passes p c choice_marked = HasChoice c.mark c.choice
Passes p c units_counted = IfSome c.choice (λ x. length x ≡ unit_count p)
Passes p c (alternative_there unit alt) = alt < alt_count p unit
Passes p c cost_exact = c.cost ≡ option_map (choice_cost p) c.choice
Passes p c choice_fits = IfSome c.choice (Fits p)
Passes p c bound_within = IfSome c.bound (λ b. IsAtMost b c.cost)
Passes p c (price_allowed before price) = IsAbove before price.resource × IsPrice p price
Passes p c (fixing_holds f) = IsStageFixing p c f
Passes p c tree_shaped = IsTree c.tree
Passes p c tree_open = HasUndone c.mark c.tree
Passes p c (split_allowed ranges unit cut) = CanSplit ranges unit cut
Passes p c (leaf_closes ranges vector scale) =
    LeafHolds (problem_of_tree p c) c.vectors c.cost ranges vector scale
Passes p c (over_closes ranges resource) = OverHolds (problem_of_tree p c) ranges resource
Passes p c undone_allowed = MayBeUndone c.mark
Passes p c (floor_closes ranges vector scale) =
    IfSome c.bound (λ b. LeafHolds (problem_of_tree p c) c.vectors (Some b) ranges vector scale)

-- ---- the tests of each line below the line of the mark, in the order in which a stage is spelled

abbrev pub alternative_tests : ℕ → List ℕ → List (List Test)
alternative_tests unit [] = []
alternative_tests unit (alt ∷ alts) =
    (alternative_there unit alt ∷ []) ∷ alternative_tests (suc unit) alts

abbrev pub choice_tests : Option (List ℕ) → List (List Test)
choice_tests None = (choice_marked ∷ []) ∷ []
choice_tests (Some alts) = (choice_marked ∷ units_counted ∷ []) ∷ alternative_tests 0 alts

abbrev pub cost_tests : Option ℕ → List (List Test)
cost_tests None = []
cost_tests (Some cost) = (cost_exact ∷ choice_fits ∷ []) ∷ []

abbrev pub bound_tests : Option ℕ → List (List Test)
bound_tests None = []
bound_tests (Some bound) = (bound_within ∷ []) ∷ []

abbrev pub price_tests : Option ℕ → List Price → List (List Test)
price_tests before [] = []
price_tests before (price ∷ prices) =
    (price_allowed before price ∷ []) ∷ price_tests (Some price.resource) prices

-- the line that counts them is not tested
abbrev pub vector_tests : List Price → List (List Test)
vector_tests prices = [] ∷ price_tests None prices

abbrev pub fixing_tests : Option Fixing → List (List Test)
fixing_tests None = []
fixing_tests (Some f) = (fixing_holds f ∷ []) ∷ []

abbrev pub undone_tests : List (ℕ × ℕ) → List Floor → List Test
undone_tests ranges [] = undone_allowed ∷ []
undone_tests ranges (floor ∷ floors) =
    undone_allowed ∷ floor_closes ranges floor.vector floor.scale ∷ []

abbrev pub node_line : List (ℕ × ℕ) → Node → List Floor → List Test
node_line ranges (Split unit cut seen) floors = split_allowed ranges unit cut ∷ []
node_line ranges (Leaf vector scale seen) floors = leaf_closes ranges vector scale ∷ []
node_line ranges (Over resource) floors = over_closes ranges resource ∷ []
node_line ranges Undone floors = undone_tests ranges floors

-- an undone node takes the first floor, where there are floors
abbrev pub rest : List Floor → List Floor
rest [] = []
rest (floor ∷ floors) = floors

abbrev pub floors_after : Node → List Floor → List Floor
floors_after (Split unit cut seen) floors = floors
floors_after (Leaf vector scale seen) floors = floors
floors_after (Over resource) floors = floors
floors_after Undone floors = rest floors

-- the ranges of a node are those that the splits above it leave; nodes past the end of the tree
-- have none
abbrev pub node_tests : List (List (ℕ × ℕ)) → List Node → List Floor → List (List Test)
node_tests pending [] floors = []
node_tests [] (node ∷ nodes) floors = [] ∷ node_tests [] nodes floors
node_tests (ranges ∷ pending) (node ∷ nodes) floors =
    node_line ranges node floors
    ∷ node_tests (parts_of ranges node ++ pending) nodes (floors_after node floors)

abbrev pub proof_tests : ProblemView → StageCert → List (List Test)
proof_tests p c =
    choice_tests c.choice ++ (cost_tests c.cost ++ (bound_tests c.bound
    ++ ([] ∷ (flat_map vector_tests c.vectors ++ (fixing_tests c.fixing
    ++ ((tree_shaped ∷ tree_open ∷ [])
    ∷ node_tests (whole_of (problem_of_tree p c) ∷ []) c.tree c.floors))))))
