-- The lines of a tree's nodes.
use Rattle.std.proofs.Common.{◌≡◌, ℕ, zero, suc, ◌+◌, ◌<◌, ◌≤◌, refl, sym, ◌∙◌, ap, subst, arith, List, [], ◌∷◌, ◌++◌, length, drop, get_or, inl, inr}
use Rattle.std.specs.Prelude.{Option, Some, None, All, is_some, true, false}
use Rattle.std.specs.List.{AllByRecursion}
use Rattle.std.proofs.lemmas.List.{drop_more}
use Rattle.choice_problem.specs.declared.nodes.Node.{Node}
use Rattle.choice_problem.specs.declared.nodes.Node.TheVariants.{Split, Leaf, Over, Undone}
use Rattle.choice_problem.specs.Problems.{ProblemView}
use Rattle.choice_problem.specs.Trees.{parts_of, IsWhole}
use Rattle.choice_problem.specs.Walks.{CanStand, CanStep, IsStep}
use Rattle.cert_format.specs.declared.cert.Floor.{Floor}
use Rattle.cert_format.specs.declared.cert.StageCert.{StageCert}
use Rattle.cert_checker.specs.declared.verdict.Reason.{Reason}
use Rattle.cert_checker.specs.declared.verdict.Verdict.{Verdict}
use Rattle.cert_checker.specs.declared.verdict.Verdict.TheVariants.{Yes, No}
use Rattle.cert_checker.specs.Tests.{Test, Passes, node_line, node_tests, floors_after}
use Rattle.cert_checker.specs.Verdicts.{FailsFirst, IsFirstFailing}
use Rattle.cert_checker.specs.Parts.{IsPart, Completes, IsLineFault, GoesOnBy}

-- a line whose tests pass
tests-passed : (p : ProblemView) (c : StageCert) (number : ℕ) (tests : List Test) (left : List (List Test)) (verdict : Verdict) (next : ℕ) → AllByRecursion (Passes p c) tests → IsPart p c (number + 1) left verdict next →
    IsPart p c number (tests ∷ left) verdict next
tests-passed p c number tests left Yes next pass part = record { verdict_is = (pass, part.verdict_is); counted = λ _. omega (arith, part.counted refl) }
tests-passed p c number tests left (No line reason) next pass part =
    let count : number + 1 ≡ suc number = omega arith in
    record {
      verdict_is = inr (pass, subst (λ (n : ℕ). IsFirstFailing (Passes p c) n left line reason) count part.verdict_is);
      counted = λ e. let no : ⊥ = cc in absurd no;
    }

tests-refused : (p : ProblemView) (c : StageCert) (number next : ℕ) (tests : List Test) (left : List (List Test)) (reason : Reason) → FailsFirst (Passes p c) tests reason → IsPart p c number (tests ∷ left) (No number reason) next
tests-refused p c number next tests left reason fails = record { verdict_is = inl (refl, fails); counted = λ e. let no : ⊥ = cc in absurd no }

-- a node that passes may stand where it does
passes-stand : (p : ProblemView) (c : StageCert) (ranges : List (ℕ × ℕ)) (node : Node) (floors : List Floor) → AllByRecursion (Passes p c) (node_line ranges node floors) → CanStand ranges node
passes-stand p c ranges (Split unit cut seen) floors pass = pass.0
passes-stand p c ranges (Leaf vector scale seen) floors pass = tt
passes-stand p c ranges (Over resource) floors pass = tt
passes-stand p c ranges Undone floors pass = tt

pub passes-step : (p : ProblemView) (c : StageCert) (old rest : List (List (ℕ × ℕ))) (ranges : List (ℕ × ℕ)) (node : Node) (floors : List Floor) → old ≡ ranges ∷ rest →
    AllByRecursion (Passes p c) (node_line ranges node floors) → CanStep old node
passes-step p c old rest ranges node floors is pass = subst (λ (w : List (List (ℕ × ℕ))). CanStep w node) (sym is) (passes-stand p c ranges node floors pass)

head-same : (ranges other : List (ℕ × ℕ)) (rest more : List (List (ℕ × ℕ))) → ranges ∷ rest ≡ other ∷ more → (ranges ≡ other) × (rest ≡ more)
head-same ranges other rest more e =
    let first : ranges ≡ other = cc in
    let others : rest ≡ more = cc in
    (first, others)

pub node-passed : (p : ProblemView) (c : StageCert) (old rest new : List (List (ℕ × ℕ))) (ranges : List (ℕ × ℕ)) (node : Node) (floors : List Floor) → old ≡ ranges ∷ rest →
    AllByRecursion (Passes p c) (node_line ranges node floors) → IsStep old node new → GoesOnBy p c old node floors new None
node-passed p c old rest new ranges node floors is pass step nodes at number lines leads verdict next part =
    let same : (step.ranges ≡ ranges) × (step.rest ≡ rest) = head-same step.ranges ranges step.rest rest (sym step.before ∙ is) in
    let after : new ≡ parts_of ranges node ++ rest = step.after ∙ ap (λ (r : List (ℕ × ℕ)). parts_of r node ++ step.rest) same.0 ∙ ap (λ (w : List (List (ℕ × ℕ))). parts_of ranges node ++ w) same.1 in
    let here : IsPart p c (at + 1) (node_tests (parts_of ranges node ++ rest) nodes (floors_after node floors)) verdict next = subst (λ (w : List (List (ℕ × ℕ))). IsPart p c (at + 1) (node_tests w nodes (floors_after node floors)) verdict next) after part in
    leads verdict next (subst (λ (w : List (List (ℕ × ℕ))). IsPart p c at (node_tests w (node ∷ nodes) floors) verdict next) (sym is)
    (tests-passed p c at (node_line ranges node floors) (node_tests (parts_of ranges node ++ rest) nodes (floors_after node floors)) verdict next pass here))

pub node-refused : (p : ProblemView) (c : StageCert) (old rest new : List (List (ℕ × ℕ))) (ranges : List (ℕ × ℕ)) (node : Node) (floors : List Floor) (reason : Reason) → old ≡ ranges ∷ rest →
    FailsFirst (Passes p c) (node_line ranges node floors) reason → GoesOnBy p c old node floors new (Some reason)
node-refused p c old rest new ranges node floors reason is fails nodes at number next lines leads =
    leads (No at reason) next (subst (λ (w : List (List (ℕ × ℕ))). IsPart p c at (node_tests w (node ∷ nodes) floors) (No at reason) next) (sym is)
    (tests-refused p c at next (node_line ranges node floors) (node_tests (parts_of ranges node ++ rest) nodes (floors_after node floors)) reason fails))

-- nodes past the end of the tree are not tested
untested : (p : ProblemView) (c : StageCert) (at : ℕ) (nodes : List Node) (floors : List Floor) → IsPart p c at (node_tests [] nodes floors) Yes (at + length nodes)
untested p c at [] floors = record { verdict_is = tt; counted = λ _. refl }
untested p c at (node ∷ nodes) floors =
    let count : suc at + length nodes ≡ at + suc (length nodes) = omega arith in
    let later : IsPart p c (at + 1) (node_tests [] nodes floors) Yes (at + 1 + length nodes) = untested p c (at + 1) nodes floors in
    let next : at + 1 + length nodes ≡ at + suc (length nodes) = omega arith in
    tests-passed p c at [] (node_tests [] nodes floors) Yes (at + suc (length nodes)) tt (subst (IsPart p c (at + 1) (node_tests [] nodes floors) Yes) next later)

pub nodes-done : (p : ProblemView) (c : StageCert) (number at : ℕ) (walk : List (List (ℕ × ℕ))) (nodes : List Node) (floors : List Floor) (lines : List (List Test)) (next : ℕ) → walk ≡ [] → next ≡ at + length nodes →
    Completes p c at (node_tests walk nodes floors) number lines → IsPart p c number lines Yes next
nodes-done p c number at walk nodes floors lines next done count leads =
    leads Yes next (subst (IsPart p c at (node_tests walk nodes floors) Yes) (sym count) (subst (λ (w : List (List (ℕ × ℕ))). IsPart p c at (node_tests w nodes floors) Yes (at + length nodes)) (sym done) (untested p c at nodes floors)))

nothing-left : (nodes : List Node) (i : ℕ) → length nodes ≤ i → drop i nodes ≡ []
nothing-left [] zero past = refl
nothing-left [] (suc i) past = refl
nothing-left (node ∷ nodes) zero past = absurd (omega arith)
nothing-left (node ∷ nodes) (suc i) past = nothing-left nodes i (omega arith)

no-nodes : (p : ProblemView) (c : StageCert) (at : ℕ) (walk : List (List (ℕ × ℕ))) (floors : List Floor) → IsPart p c at (node_tests walk [] floors) Yes at
no-nodes p c at walk floors = record { verdict_is = tt; counted = λ _. omega arith }

pub nodes-end : (p : ProblemView) (c : StageCert) (number at i : ℕ) (walk : List (List (ℕ × ℕ))) (nodes : List Node) (floors : List Floor) (lines : List (List Test)) → length nodes ≤ i →
    Completes p c at (node_tests walk (drop i nodes) floors) number lines → IsPart p c number lines Yes at
nodes-end p c number at i walk nodes floors lines past leads =
    leads Yes at (subst (λ (ns : List Node). IsPart p c at (node_tests walk ns floors) Yes at) (sym (nothing-left nodes i past)) (no-nodes p c at walk floors))

pub nodes-next : (p : ProblemView) (c : StageCert) (number at i : ℕ) (old new : List (List (ℕ × ℕ))) (nodes : List Node) (floors : List Floor) (lines : List (List Test)) (d : Node) → i < length nodes →
    GoesOnBy p c old (get_or nodes i d) floors new None → Completes p c at (node_tests old (drop i nodes) floors) number lines →
    Completes p c (at + 1) (node_tests new (drop (i + 1) nodes) (floors_after (get_or nodes i d) floors)) number lines
nodes-next p c number at i old new nodes floors lines d lt goes leads =
    goes (drop (i + 1) nodes) at number lines (subst (λ (ns : List Node). Completes p c at (node_tests old ns floors) number lines) (drop_more nodes i d lt) leads)

pub nodes-refused : (p : ProblemView) (c : StageCert) (number at i next : ℕ) (old new : List (List (ℕ × ℕ))) (nodes : List Node) (floors : List Floor) (lines : List (List Test)) (d : Node) (reason : Reason) → i < length nodes →
    GoesOnBy p c old (get_or nodes i d) floors new (Some reason) → Completes p c at (node_tests old (drop i nodes) floors) number lines → IsPart p c number lines (No at reason) next
nodes-refused p c number at i next old new nodes floors lines d reason lt goes leads =
    goes (drop (i + 1) nodes) at number next lines (subst (λ (ns : List Node). Completes p c at (node_tests old ns floors) number lines) (drop_more nodes i d lt) leads)

-- ---- no node is undone

abbrev pub IsWholeLeft : List Node → List Node → Type 0
IsWholeLeft left nodes = (IsWhole left → IsWhole nodes) × (IsWhole nodes → IsWhole left)

pub whole-next : (nodes : List Node) (i : ℕ) (d : Node) → i < length nodes →
    ((rest : List Node) → (IsWhole (get_or nodes i d ∷ rest) → IsWhole rest) × (IsWhole rest → IsWhole (get_or nodes i d ∷ rest))) → IsWholeLeft (drop i nodes) nodes → IsWholeLeft (drop (i + 1) nodes) nodes
whole-next nodes i d lt same left =
    let head = drop_more nodes i d lt in (
      (λ h. left.0 (subst IsWhole (sym head) ((same (drop (i + 1) nodes)).1 h))),
      (λ h. (same (drop (i + 1) nodes)).0 (subst IsWhole head (left.1 h))),
    )

pub whole-refused : (nodes : List Node) (i : ℕ) (d : Node) → i < length nodes → ((rest : List Node) → IsWhole (get_or nodes i d ∷ rest) → ⊥) → IsWholeLeft (drop i nodes) nodes → IsWhole nodes → ⊥
whole-refused nodes i d lt undone left whole = undone (drop (i + 1) nodes) (subst IsWhole (drop_more nodes i d lt) (left.1 whole))

pub whole-end : (nodes : List Node) (i : ℕ) → length nodes ≤ i → IsWholeLeft (drop i nodes) nodes → IsWhole nodes
whole-end nodes i past left = left.0 (subst IsWhole (sym (nothing-left nodes i past)) tt)

pub head-holds : {X : Type 0} (P : X → Type 0) (xs : List X) (x : X) → xs ≡ x ∷ drop 1 xs → All P xs → P x
head-holds P xs x is all = (subst (All P) is all) 0 x (omega arith)

-- a node whose line fails, or passes, by what was found
pub fault-refuses : (p : ProblemView) (c : StageCert) (old new : List (List (ℕ × ℕ))) (ranges : List (ℕ × ℕ)) (node : Node) (floors : List Floor) (fault : Option Reason) → is_some fault ≡ true → old ≡ ranges ∷ drop 1 old →
    IsLineFault (Passes p c) (node_line ranges node floors) fault → GoesOnBy p c old node floors new fault
fault-refuses p c old new ranges node floors None some is found = let no : ⊥ = cc in absurd no
fault-refuses p c old new ranges node floors (Some reason) some is found = node-refused p c old (drop 1 old) new ranges node floors reason is found

pub fault-passes : (Holds : Test → Type 0) (tests : List Test) (fault : Option Reason) → is_some fault ≡ false → IsLineFault Holds tests fault → AllByRecursion Holds tests
fault-passes Holds tests None none found = found
fault-passes Holds tests (Some reason) none found = let no : ⊥ = cc in absurd no
