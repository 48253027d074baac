-- The tests of a tree on the problem that a fixing leaves.
use Rattle.std.proofs.Common.{◌≡◌, ℕ, suc, ◌+◌, ◌<◌, ◌^◌, sym, ap, subst, arith, List, [], ◌∷◌, ◌++◌, length, inl, inr}
use Rattle.std.specs.Prelude.{Option, Some, None, All}
use Rattle.std.specs.List.{AllByRecursion}
use Rattle.choice_problem.specs.declared.vectors.Price.{Price}
use Rattle.choice_problem.specs.declared.nodes.Node.{Node}
use Rattle.choice_problem.specs.declared.nodes.Node.TheVariants.{Split, Leaf, Over, Undone}
use Rattle.choice_problem.specs.Problems.{ProblemView}
use Rattle.choice_problem.specs.Bounds.{IsVector, whole_of}
use Rattle.choice_problem.specs.Trees.{parts_of}
use Rattle.cost_fixing.specs.declared.fixings.Fixing.{Fixing}
use Rattle.cost_fixing.specs.Fixings.{tree_problem}
use Rattle.cert_format.specs.declared.cert.Floor.{Floor}
use Rattle.cert_format.specs.declared.cert.StageCert.{StageCert}
use Rattle.cert_format.specs.Proofs.{IsStageFixing, problem_of_tree}
use Rattle.cert_checker.specs.declared.verdict.Reason.{Reason}
use Rattle.cert_checker.specs.declared.verdict.Reason.TheVariants as because
use Rattle.cert_checker.specs.declared.verdict.Verdict.{Verdict}
use Rattle.cert_checker.specs.declared.verdict.Verdict.TheVariants.{Yes, No}
use Rattle.cert_checker.specs.Tests.{Test, choice_marked, units_counted, alternative_there, cost_exact, choice_fits, bound_within, price_allowed, fixing_holds, tree_shaped, tree_open, split_allowed, leaf_closes, over_closes, undone_allowed, floor_closes, Passes, fixing_tests, node_line, node_tests, floors_after}
use Rattle.cert_checker.specs.Verdicts.{FailsFirst, NoneFails, IsFirstFailing}
use Rattle.cert_checker.specs.Parts.{IsPart, tree_part, fixing_part, unfixed}
use Rattle.cert_checker.proofs.LineLemmas.{tree_part-length}
use Rattle.cert_checker.proofs.VerdictLemmas.{line-passed, line-refused}

-- ---- vectors

-- the resources that are left are those of the problem
pub vector-left : (p : ProblemView) (vectors : List (List Price)) (f : Fixing) (prices : List Price) → IsVector p prices → IsVector (tree_problem p vectors (Some f)) prices
vector-left p vectors f prices v = record {
  rising = v.rising;
  each = λ k d lt. let e = v.each k d lt in record { there = e.there; positive = e.positive; small = e.small };
}

pub vectors-left : (p : ProblemView) (listed : List (List Price)) (f : Fixing) (vectors : List (List Price)) → All (IsVector p) vectors → All (IsVector (tree_problem p listed (Some f))) vectors
vectors-left p listed f vectors all k d lt = vector-left p listed f _ (all k d lt)

-- ---- the tests of a tree

abbrev IsTreeTest : Test → Type 0
IsTreeTest choice_marked = ⊥
IsTreeTest units_counted = ⊥
IsTreeTest (alternative_there unit alt) = ⊥
IsTreeTest cost_exact = ⊥
IsTreeTest choice_fits = ⊥
IsTreeTest bound_within = ⊥
IsTreeTest (price_allowed before price) = ⊥
IsTreeTest (fixing_holds f) = ⊥
IsTreeTest tree_shaped = Unit {0}
IsTreeTest tree_open = Unit {0}
IsTreeTest (split_allowed ranges unit cut) = Unit {0}
IsTreeTest (leaf_closes ranges vector scale) = Unit {0}
IsTreeTest (over_closes ranges resource) = Unit {0}
IsTreeTest undone_allowed = Unit {0}
IsTreeTest (floor_closes ranges vector scale) = Unit {0}

-- on the problem that is left, and on the stage's, where the fixing leaves it
test-on : (p : ProblemView) (c : StageCert) (t : Test) → IsTreeTest t → Passes (problem_of_tree p c) (unfixed c) t → Passes p c t
test-on p c choice_marked is h = absurd is
test-on p c units_counted is h = absurd is
test-on p c (alternative_there unit alt) is h = absurd is
test-on p c cost_exact is h = absurd is
test-on p c choice_fits is h = absurd is
test-on p c bound_within is h = absurd is
test-on p c (price_allowed before price) is h = absurd is
test-on p c (fixing_holds f) is h = absurd is
test-on p c tree_shaped is h = h
test-on p c tree_open is h = h
test-on p c (split_allowed ranges unit cut) is h = h
test-on p c (leaf_closes ranges vector scale) is h = h
test-on p c (over_closes ranges resource) is h = h
test-on p c undone_allowed is h = h
test-on p c (floor_closes ranges vector scale) is h = h

test-off : (p : ProblemView) (c : StageCert) (t : Test) → IsTreeTest t → Passes p c t → Passes (problem_of_tree p c) (unfixed c) t
test-off p c choice_marked is h = absurd is
test-off p c units_counted is h = absurd is
test-off p c (alternative_there unit alt) is h = absurd is
test-off p c cost_exact is h = absurd is
test-off p c choice_fits is h = absurd is
test-off p c bound_within is h = absurd is
test-off p c (price_allowed before price) is h = absurd is
test-off p c (fixing_holds f) is h = absurd is
test-off p c tree_shaped is h = h
test-off p c tree_open is h = h
test-off p c (split_allowed ranges unit cut) is h = h
test-off p c (leaf_closes ranges vector scale) is h = h
test-off p c (over_closes ranges resource) is h = h
test-off p c undone_allowed is h = h
test-off p c (floor_closes ranges vector scale) is h = h

abbrev AreTreeTests : List (List Test) → Type 0
AreTreeTests lines = AllByRecursion (AllByRecursion IsTreeTest) lines

node-line-tests : (ranges : List (ℕ × ℕ)) (node : Node) (floors : List Floor) → AllByRecursion IsTreeTest (node_line ranges node floors)
node-line-tests ranges (Split unit cut seen) floors = (tt, tt)
node-line-tests ranges (Leaf vector scale seen) floors = (tt, tt)
node-line-tests ranges (Over resource) floors = (tt, tt)
node-line-tests ranges Undone [] = (tt, tt)
node-line-tests ranges Undone (floor ∷ floors) = (tt, (tt, tt))

node-tests-are : (pending : List (List (ℕ × ℕ))) (nodes : List Node) (floors : List Floor) → AreTreeTests (node_tests pending nodes floors)
node-tests-are pending [] floors = tt
node-tests-are [] (node ∷ nodes) floors = (tt, node-tests-are [] nodes floors)
node-tests-are (ranges ∷ pending) (node ∷ nodes) floors = (node-line-tests ranges node floors, node-tests-are (parts_of ranges node ++ pending) nodes (floors_after node floors))

tree-tests-are : (p : ProblemView) (c : StageCert) → AreTreeTests (tree_part p c)
tree-tests-are p c = ((tt, (tt, tt)), node-tests-are (whole_of (problem_of_tree p c) ∷ []) c.tree c.floors)

-- what holds alike of such tests
abbrev Implies : (Test → Type 0) → (Test → Type 0) → Type 0
Implies P Q = (t : Test) → IsTreeTest t → P t → Q t

all-on : (P Q : Test → Type 0) (tests : List Test) → Implies P Q → AllByRecursion IsTreeTest tests → AllByRecursion P tests → AllByRecursion Q tests
all-on P Q [] f are h = tt
all-on P Q (t ∷ tests) f are h = (f t are.0 h.0, all-on P Q tests f are.1 h.1)

none-on : (P Q : Test → Type 0) (lines : List (List Test)) → Implies P Q → AreTreeTests lines → NoneFails P lines → NoneFails Q lines
none-on P Q [] f are h = tt
none-on P Q (tests ∷ lines) f are h = (all-on P Q tests f are.0 h.0, none-on P Q lines f are.1 h.1)

reason-on : (P Q : Test → Type 0) (tests : List Test) (reason : Reason) → Implies P Q → Implies Q P → AllByRecursion IsTreeTest tests → FailsFirst P tests reason → FailsFirst Q tests reason
reason-on P Q [] reason f g are h = h
reason-on P Q (t ∷ tests) reason f g are h =
    elim h [ inl here ↦ inl ((λ passes. here.0 (g t are.0 passes)), here.1) | inr later ↦ inr (f t are.0 later.0, reason-on P Q tests reason f g are.1 later.1) ]

first-on : (P Q : Test → Type 0) (number : ℕ) (lines : List (List Test)) (line : ℕ) (reason : Reason) → Implies P Q → Implies Q P → AreTreeTests lines → IsFirstFailing P number lines line reason → IsFirstFailing Q number lines line reason
first-on P Q number [] line reason f g are h = h
first-on P Q number (tests ∷ lines) line reason f g are h =
    elim h [
      | inl here ↦ inl (here.0, reason-on P Q tests reason f g are.0 here.1)
      | inr later ↦ inr (all-on P Q tests f are.0 later.0, first-on P Q (suc number) lines line reason f g are.1 later.1)
    ]

tree-on : (p : ProblemView) (c : StageCert) (number : ℕ) (verdict : Verdict) (next : ℕ) → IsPart (problem_of_tree p c) (unfixed c) number (tree_part p c) verdict next → IsPart p c number (tree_part p c) verdict next
tree-on p c number Yes next part = record {
  verdict_is = none-on (Passes (problem_of_tree p c) (unfixed c)) (Passes p c) (tree_part p c) (test-on p c) (tree-tests-are p c) part.verdict_is;
  counted = part.counted;
}
tree-on p c number (No line reason) next part = record {
  verdict_is = first-on (Passes (problem_of_tree p c) (unfixed c)) (Passes p c) number (tree_part p c) line reason (test-on p c) (test-off p c) (tree-tests-are p c) part.verdict_is;
  counted = part.counted;
}

-- the verdict on a tree, by that on the problem that is left
pub tree-by : (p q : ProblemView) (c : StageCert) (number : ℕ) (verdict : Verdict) (next : ℕ) → q ≡ problem_of_tree p c → IsPart q (unfixed c) number (tree_part q (unfixed c)) verdict next → IsPart p c number (tree_part p c) verdict next
tree-by p q c number verdict next is part =
    tree-on p c number verdict next (subst (λ (x : ProblemView). IsPart x (unfixed c) number (tree_part x (unfixed c)) verdict next) is part)

-- ---- the line of the fixing

pub fixing-refused : (p : ProblemView) (c : StageCert) (number next : ℕ) (f : Fixing) → c.fixing ≡ Some f → (IsStageFixing p c f → ⊥) → IsPart p c number (fixing_part p c) (No number because.Fixing) next
fixing-refused p c number next f is refused =
    subst (λ (o : Option Fixing). IsPart p c number (fixing_tests o ++ tree_part p c) (No number because.Fixing) next) (sym is) (line-refused p c number next (fixing_holds f) (tree_part p c) refused)

pub fixing-passed : (p : ProblemView) (c : StageCert) (number : ℕ) (f : Fixing) (verdict : Verdict) (next : ℕ) → c.fixing ≡ Some f → IsStageFixing p c f → IsPart p c (number + 1) (tree_part p c) verdict next → IsPart p c number (fixing_part p c) verdict next
fixing-passed p c number f verdict next is fixed part =
    subst (λ (o : Option Fixing). IsPart p c number (fixing_tests o ++ tree_part p c) verdict next) (sym is) (line-passed p c number (fixing_holds f) (tree_part p c) verdict next fixed part)

pub fixing-none : (p : ProblemView) (c : StageCert) (number : ℕ) (verdict : Verdict) (next : ℕ) → c.fixing ≡ None → IsPart p (unfixed c) number (tree_part p (unfixed c)) verdict next → IsPart p c number (fixing_part p c) verdict next
fixing-none p c number verdict next is part =
    let plain : p ≡ problem_of_tree p c = sym (ap (λ (o : Option Fixing). tree_problem p c.vectors o) is) in
    subst (λ (o : Option Fixing). IsPart p c number (fixing_tests o ++ tree_part p c) verdict next) (sym is) (tree-by p p c number verdict next plain part)

-- ---- how many lines are left

pub room-none : (p : ProblemView) (c : StageCert) (line : ℕ) → c.fixing ≡ None → line + length (fixing_part p c) < 2 ^ 32 → line + length (tree_part p (unfixed c)) < 2 ^ 32
room-none p c line is room =
    let there = ap (λ (o : Option Fixing). length (fixing_tests o ++ tree_part p c)) is in
    omega (arith, room, there, tree_part-length p c, tree_part-length p (unfixed c))

pub room-some : (p q : ProblemView) (c : StageCert) (f : Fixing) (line : ℕ) → c.fixing ≡ Some f → line + length (fixing_part p c) < 2 ^ 32 → line + 1 + length (tree_part q (unfixed c)) < 2 ^ 32
room-some p q c f line is room =
    let there = ap (λ (o : Option Fixing). length (fixing_tests o ++ tree_part p c)) is in
    omega (arith, room, there, tree_part-length p c, tree_part-length q (unfixed c))
