-- What a proof of a stage shows of its mark, by the laws of trees.
use Rattle.std.proofs.Common.{◌≡◌, ℕ, ◌≤◌, refl, sym, ap, ◌∙◌, subst, List}
use Rattle.std.specs.Prelude.{Bool, Option, Some, None, IfSome, IsSome, IsNone, IsSomeAnd, option_map, true, false, All}
use Rattle.choice_problem.specs.declared.vectors.Price.{Price}
use Rattle.choice_problem.specs.declared.nodes.Node.{Node}
use Rattle.choice_problem.specs.Problems.{ProblemView}
use Rattle.choice_problem.specs.Choices.{IsFeasible, IsBest, HasNone, choice_cost}
use Rattle.choice_problem.specs.Bounds.{IsVector, whole_of}
use Rattle.choice_problem.specs.Trees.{IsSound, IsWhole}
use Rattle.choice_problem.specs.Floors.{AreFloors, IsAtMost}
use Rattle.cost_fixing.specs.declared.fixings.Fixing.{Fixing}
use Rattle.cost_fixing.specs.Fixings.{FixingHolds, tree_problem}
use Rattle.cert_format.specs.declared.cert.Mark.{Mark}
use Rattle.cert_format.specs.declared.cert.Mark.TheVariants.{Optimal, Infeasible, Unsettled, NotTried}
use Rattle.cert_format.specs.declared.cert.StageCert.{StageCert}
use Rattle.cert_format.specs.Proofs.{IsProof, IsStageFixing, FitsMark, IsStatedBound, ClaimsOf, floor_pairs}

abbrev pub NoneLaw : Type 0
NoneLaw = (p : ProblemView) (vectors : List (List Price)) (nodes : List Node) → All (IsVector p) vectors → IsSound p vectors None (whole_of p) nodes → IsWhole nodes → HasNone p

abbrev pub FloorLaw : Type 0
FloorLaw = (p : ProblemView) (vectors : List (List Price)) (cost : Option ℕ) (floor : ℕ) (nodes : List Node) (floors : List (ℕ × ℕ)) (x : List ℕ) → All (IsVector p) vectors → IsSound p vectors cost (whole_of p) nodes → IsAtMost floor cost → AreFloors p vectors floor nodes floors → IsFeasible p x → floor ≤ choice_cost p x

abbrev pub FixedLaw : Type 0
FixedLaw = (p : ProblemView) (vectors : List (List Price)) (fixing : Option Fixing) (nodes : List Node) (x : List ℕ) → All (IsVector p) vectors → IsFeasible p x → IfSome fixing (FixingHolds p vectors (Some (choice_cost p x))) →
    IsSound (tree_problem p vectors fixing) vectors (Some (choice_cost p x)) (whole_of (tree_problem p vectors fixing)) nodes → IsWhole nodes → IsBest p x

false_is_not_true : false ≡ true → ⊥
false_is_not_true e = cc

true_is_not_false : true ≡ false → ⊥
true_is_not_false e = cc

-- a tree is sound on what a fixing leaves
abbrev FixedSound : ProblemView → List (List Price) → Option Fixing → Option ℕ → List Node → Type 0
FixedSound p vectors fixing cost nodes = IsSound (tree_problem p vectors fixing) vectors cost (whole_of (tree_problem p vectors fixing)) nodes

best_choice : FixedLaw → (p : ProblemView) (vectors : List (List Price)) (fixing : Option Fixing) (nodes : List Node) (choice : Option (List ℕ)) (cost : Option ℕ) → IfSome choice (IsFeasible p) → cost ≡ option_map (choice_cost p) choice →
    All (IsVector p) vectors → IfSome fixing (FixingHolds p vectors cost) → FixedSound p vectors fixing cost nodes → IsSome choice → IsWhole nodes → IsSomeAnd choice (IsBest p)
best_choice law p vectors fixing nodes None cost feasible cost_is prices holds sound some whole = absurd (false_is_not_true some)
best_choice law p vectors fixing nodes (Some x) cost feasible cost_is prices holds sound some whole =
    law p vectors fixing nodes x prices feasible (subst (λ (c : Option ℕ). IfSome fixing (FixingHolds p vectors c)) cost_is holds) (subst (λ (c : Option ℕ). FixedSound p vectors fixing c nodes) cost_is sound) whole

all_hold : (p : ProblemView) (c : StageCert) (fixing : Option Fixing) → IfSome fixing (IsStageFixing p c) → IfSome fixing (FixingHolds p c.vectors c.cost)
all_hold p c None fixed = tt
all_hold p c (Some f) fixed = fixed.holds

-- under another mark there is no fixing
abbrev is_optimal : Mark → Bool
is_optimal Optimal = true
is_optimal Infeasible = false
is_optimal Unsettled = false
is_optimal NotTried = false

not_optimal : (mark : Mark) → is_optimal mark ≡ false → mark ≡ Optimal → ⊥
not_optimal mark other is = false_is_not_true (sym other ∙ ap is_optimal is)

unfixed : (p : ProblemView) (c : StageCert) (fixing : Option Fixing) → is_optimal c.mark ≡ false → IfSome fixing (IsStageFixing p c) → fixing ≡ None
unfixed p c None other fixed = refl
unfixed p c (Some f) other fixed = absurd (not_optimal c.mark other fixed.optimal)

plain_sound : (p : ProblemView) (c : StageCert) → is_optimal c.mark ≡ false → IfSome c.fixing (IsStageFixing p c) → FixedSound p c.vectors c.fixing c.cost c.tree → IsSound p c.vectors c.cost (whole_of p) c.tree
plain_sound p c other fixed sound = subst (λ (f : Option Fixing). FixedSound p c.vectors f c.cost c.tree) (unfixed p c c.fixing other fixed) sound

no_choice : NoneLaw → (p : ProblemView) (vectors : List (List Price)) (nodes : List Node) (choice : Option (List ℕ)) (cost : Option ℕ) → cost ≡ option_map (choice_cost p) choice → All (IsVector p) vectors →
    IsSound p vectors cost (whole_of p) nodes → IsNone choice → IsWhole nodes → HasNone p
no_choice law p vectors nodes (Some x) cost cost_is prices sound none whole = absurd (true_is_not_false none)
no_choice law p vectors nodes None cost cost_is prices sound none whole =
    law p vectors nodes prices (subst (λ (c : Option ℕ). IsSound p vectors c (whole_of p) nodes) cost_is sound) whole

bounded : FloorLaw → (p : ProblemView) (c : StageCert) (bound : Option ℕ) → All (IsVector p) c.vectors → IsSound p c.vectors c.cost (whole_of p) c.tree → IfSome bound (IsStatedBound p c) →
    IfSome bound (λ b. (x : List ℕ) → IsFeasible p x → b ≤ choice_cost p x)
bounded law p c None prices sound stated = tt
bounded law p c (Some b) prices sound stated = λ x feasible. law p c.vectors c.cost b c.tree (floor_pairs c.floors) x prices sound stated.within stated.floors feasible

claims_by : FixedLaw → NoneLaw → FloorLaw → (p : ProblemView) (c : StageCert) (mark : Mark) → c.mark ≡ mark → IsProof p c → FitsMark p c mark → ClaimsOf p c mark
claims_by fixed none floor p c Optimal is proof marked =
    best_choice fixed p c.vectors c.fixing c.tree c.choice c.cost proof.feasible proof.cost proof.vectors (all_hold p c c.fixing proof.fixing) proof.sound marked.0 marked.1
claims_by fixed none floor p c Infeasible is proof marked =
    no_choice none p c.vectors c.tree c.choice c.cost proof.cost proof.vectors (plain_sound p c (ap is_optimal is) proof.fixing proof.sound) marked.0 marked.1
claims_by fixed none floor p c Unsettled is proof marked =
    bounded floor p c c.bound proof.vectors (plain_sound p c (ap is_optimal is) proof.fixing proof.sound) marked.1
claims_by fixed none floor p c NotTried is proof marked = tt

pub proven : FixedLaw → NoneLaw → FloorLaw → (p : ProblemView) (c : StageCert) → IsProof p c → ClaimsOf p c c.mark
proven fixed none floor p c proof = claims_by fixed none floor p c c.mark refl proof proof.marked
