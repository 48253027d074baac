-- The first failing line of a certificate is one: two problems of one stage pass the same tests.
use Rattle.std.proofs.Common.{◌≡◌, ℕ, suc, ◌+◌, ◌<◌, sym, ◌∙◌, ap, subst, arith, List, [], ◌∷◌, ◌++◌, length, get_or, inl, inr, Bool, true, false}
use Rattle.std.specs.Prelude.{Option, Some, None, flat_map}
use Rattle.std.specs.List.{AllByRecursion}
use Rattle.finite_sums.specs.Sums.{sum_below}
use Rattle.finite_sums.proofs.SumLemmas.{sum_below-same}
use Rattle.season_days.specs.declared.declaration.Declaration.{Declaration}
use Rattle.choice_problem.specs.declared.vectors.Price.{Price}
use Rattle.choice_problem.specs.declared.nodes.Node.{Node}
use Rattle.choice_problem.specs.declared.nodes.Node.TheVariants.{Leaf, Over}
use Rattle.choice_problem.specs.Problems.{ProblemView, unit_count, alt_count, resource_count, alt_uses}
use Rattle.choice_problem.specs.Choices.{Fits, choice_cost, load_of}
use Rattle.choice_problem.specs.Bounds.{whole_of}
use Rattle.choice_problem.specs.Trees.{NodeHolds, LeafHolds}
use Rattle.choice_problem.specs.Alike.{AreAlike}
use Rattle.cost_fixing.specs.declared.fixings.Fixing.{Fixing}
use Rattle.cost_fixing.specs.Fixings.{FixingHolds, tree_problem}
use Rattle.cert_format.specs.declared.cert.StageCert.{StageCert}
use Rattle.cert_format.specs.Proofs.{problem_of_tree}
use Rattle.cert_format.specs.Spelling.{is_tried, stage_lines}
use Rattle.series_model.specs.declared.unit.Unit.{Unit as SlotUnit}
use Rattle.series_model.specs.declared.state.UnitState.{UnitState}
use Rattle.series_model.specs.Stages.{states_after, may_follow, stage_units, stage_limit}
use Rattle.wasg_stages.specs.StageProblems.{IsAllotmentProblem, IsStageProblem}
use Rattle.cert_checker.specs.declared.verdict.Reason.{Reason}
use Rattle.cert_checker.specs.Tests.{Test, choice_marked, units_counted, alternative_there, cost_exact, choice_fits, bound_within, price_allowed, fixing_holds, tree_shaped, tree_open, split_allowed, leaf_closes, over_closes, undone_allowed, floor_closes, Passes, proof_tests, choice_tests, cost_tests, bound_tests, vector_tests, fixing_tests, node_tests}
use Rattle.cert_checker.specs.Verdicts.{FailsFirst, NoneFails, IsFirstFailing}
use Rattle.cert_checker.specs.Certificates.{Choices, FailsBelow, PassesBelow, StageFails, StagePasses, StagesFail}
use Rattle.cert_checker.proofs.AlikeLemmas.{problems-alike, problems-uses, problems-alts, if-some, cost-alike}
use Rattle.cert_checker.proofs.VerdictLemmas.{IsFirstFailing-one, IsFirstFailing-not_none}

-- ---- the same tests pass

-- what the problems of one stage have in common
pub record AreSame (p q : ProblemView) : Type 0 where
  pub alike : AreAlike p q
  pub alts : (u : ℕ) → alt_count p u ≡ alt_count q u
  pub uses : (u a r : ℕ) → alt_uses p u a r ≡ alt_uses q u a r
  pub cost : (x : List ℕ) → choice_cost p x ≡ choice_cost q x
  pub holds : (vectors : List (List Price)) (cost : Option ℕ) (f : Fixing) → FixingHolds p vectors cost f → FixingHolds q vectors cost f
  pub whole : (vectors : List (List Price)) (fixing : Option Fixing) → whole_of (tree_problem p vectors fixing) ≡ whole_of (tree_problem q vectors fixing)
  pub node : (vectors : List (List Price)) (fixing : Option Fixing) (cost : Option ℕ) (ranges : List (ℕ × ℕ)) (node : Node) →
      NodeHolds (tree_problem p vectors fixing) vectors cost ranges node → NodeHolds (tree_problem q vectors fixing) vectors cost ranges node

fits-same : (p q : ProblemView) (x : List ℕ) → AreSame p q → Fits p x → Fits q x
fits-same p q x same fits r lt =
    let there : r < resource_count p = subst (λ (n : ℕ). r < n) (sym same.alike.resources) lt in
    let load : load_of p x r ≡ load_of q x r =
    sum_below-same (unit_count p) (λ u. alt_uses p u (get_or x u 0) r) (λ u. alt_uses q u (get_or x u 0) r) (λ u l. same.uses u (get_or x u 0) r)
    ∙ ap (λ (n : ℕ). sum_below n (λ u. alt_uses q u (get_or x u 0) r)) same.alike.units in
    omega (arith, fits r there, load, same.alike.limits r there)

pub passes-same : (p q : ProblemView) (c : StageCert) → AreSame p q → (test : Test) → Passes p c test → Passes q c test
passes-same p q c same choice_marked h = h
passes-same p q c same units_counted h = if-some (λ x. length x ≡ unit_count p) (λ x. length x ≡ unit_count q) c.choice (λ x e. e ∙ same.alike.units) h
passes-same p q c same (alternative_there unit alt) h = subst (λ (n : ℕ). alt < n) (same.alts unit) h
passes-same p q c same cost_exact h = h ∙ cost-alike p q c.choice same.cost
passes-same p q c same choice_fits h = if-some (Fits p) (Fits q) c.choice (λ x fits. fits-same p q x same fits) h
passes-same p q c same bound_within h = h
passes-same p q c same (price_allowed before price) h =
    (h.0, record { there = subst (λ (n : ℕ). price.resource < n) same.alike.resources h.1.there; positive = h.1.positive; small = h.1.small })
passes-same p q c same (fixing_holds f) h = record { optimal = h.optimal; holds = same.holds c.vectors c.cost f h.holds }
passes-same p q c same tree_shaped h = h
passes-same p q c same tree_open h = h
passes-same p q c same (split_allowed ranges unit cut) h = h
passes-same p q c same (leaf_closes ranges vector scale) h = same.node c.vectors c.fixing c.cost ranges (Leaf vector scale None) h
passes-same p q c same (over_closes ranges resource) h = same.node c.vectors c.fixing c.cost ranges (Over resource) h
passes-same p q c same undone_allowed h = h
passes-same p q c same (floor_closes ranges vector scale) h =
    if-some (λ b. LeafHolds (problem_of_tree p c) c.vectors (Some b) ranges vector scale) (λ b. LeafHolds (problem_of_tree q c) c.vectors (Some b) ranges vector scale) c.bound
    (λ b holds. same.node c.vectors c.fixing (Some b) ranges (Leaf vector scale None) holds) h

-- ---- so the same line fails first

all-same : (P Q : Test → Type 0) (tests : List Test) → ((t : Test) → P t → Q t) → AllByRecursion P tests → AllByRecursion Q tests
all-same P Q [] f h = tt
all-same P Q (t ∷ tests) f h = (f t h.0, all-same P Q tests f h.1)

none-same : (P Q : Test → Type 0) (lines : List (List Test)) → ((t : Test) → P t → Q t) → NoneFails P lines → NoneFails Q lines
none-same P Q [] f h = tt
none-same P Q (tests ∷ lines) f h = (all-same P Q tests f h.0, none-same P Q lines f h.1)

reason-same : (P Q : Test → Type 0) (tests : List Test) (reason : Reason) → ((t : Test) → P t → Q t) → ((t : Test) → Q t → P t) → FailsFirst P tests reason → FailsFirst Q tests reason
reason-same P Q [] reason f g h = h
reason-same P Q (t ∷ tests) reason f g h =
    elim h [ inl here ↦ inl ((λ passes. here.0 (g t passes)), here.1) | inr later ↦ inr (f t later.0, reason-same P Q tests reason f g later.1) ]

line-same : (P Q : Test → Type 0) (number : ℕ) (lines : List (List Test)) (line : ℕ) (reason : Reason) → ((t : Test) → P t → Q t) → ((t : Test) → Q t → P t) →
    IsFirstFailing P number lines line reason → IsFirstFailing Q number lines line reason
line-same P Q number [] line reason f g h = h
line-same P Q number (tests ∷ lines) line reason f g h =
    elim h [
      | inl here ↦ inl (here.0, reason-same P Q tests reason f g here.1)
      | inr later ↦ inr (all-same P Q tests f later.0, line-same P Q (suc number) lines line reason f g later.1)
    ]

-- the tests of a stage are those of any of its problems
lines-same : (p q : ProblemView) (c : StageCert) → whole_of (problem_of_tree p c) ≡ whole_of (problem_of_tree q c) → proof_tests p c ≡ proof_tests q c
lines-same p q c whole =
    ap (λ (ranges : List (ℕ × ℕ)). choice_tests c.choice ++ (cost_tests c.cost ++ (bound_tests c.bound ++ ([] ∷ (flat_map vector_tests c.vectors ++ (fixing_tests c.fixing
    ++ ((tree_shaped ∷ tree_open ∷ []) ∷ node_tests (ranges ∷ []) c.tree c.floors))))))) whole

-- ---- one stage

pub first-one : (p q : ProblemView) (c : StageCert) (number line other : ℕ) (reason why : Reason) → AreSame p q → AreSame q p →
    IsFirstFailing (Passes p c) number (proof_tests p c) line reason → IsFirstFailing (Passes q c) number (proof_tests q c) other why → (line ≡ other) × (reason ≡ why)
first-one p q c number line other reason why there back one two =
    let moved : IsFirstFailing (Passes q c) number (proof_tests q c) line reason =
    subst (λ (lines : List (List Test)). IsFirstFailing (Passes q c) number lines line reason) (lines-same p q c (there.whole c.vectors c.fixing))
    (line-same (Passes p c) (Passes q c) number (proof_tests p c) line reason (passes-same p q c there) (passes-same q p c back) one) in
    IsFirstFailing-one (Passes q c) number (proof_tests q c) line other reason why moved two

pub none-not_first : (p q : ProblemView) (c : StageCert) (number line : ℕ) (reason : Reason) → AreSame p q → NoneFails (Passes p c) (proof_tests p c) →
    IsFirstFailing (Passes q c) number (proof_tests q c) line reason → ⊥
none-not_first p q c number line reason there one two =
    let moved : NoneFails (Passes q c) (proof_tests q c) = subst (λ (lines : List (List Test)). NoneFails (Passes q c) lines) (lines-same p q c (there.whole c.vectors c.fixing))
    (none-same (Passes p c) (Passes q c) (proof_tests p c) (passes-same p q c there) one) in
    IsFirstFailing-not_none (Passes q c) number (proof_tests q c) line reason moved two

abbrev pub AllSame : Type 0
AllSame = (d : Declaration) (stage : ℕ) (states : List UnitState) (p q : ProblemView) → IsStageProblem d stage states p → IsStageProblem d stage states q → AreSame p q

below-one : AllSame → (d : Declaration) (stage : ℕ) (states : List UnitState) (number : ℕ) (c : StageCert) (line other : ℕ) (reason why : Reason) →
    FailsBelow d stage states number c line reason → FailsBelow d stage states number c other why → (line ≡ other) × (reason ≡ why)
below-one all d stage states number c line other reason why one two =
    first-one one.0 two.0 c (suc number) line other reason why (all d stage states one.0 two.0 one.1 two.1) (all d stage states two.0 one.0 two.1 one.1) one.2 two.2

below-not_both : AllSame → (d : Declaration) (stage : ℕ) (states : List UnitState) (number : ℕ) (c : StageCert) (line : ℕ) (reason : Reason) →
    PassesBelow d stage states c → FailsBelow d stage states number c line reason → ⊥
below-not_both all d stage states number c line reason one two =
    none-not_first one.0 two.0 c (suc number) line reason (all d stage states one.0 two.0 one.1 two.1) one.2 two.2

stage-one : AllSame → (d : Declaration) (stage : ℕ) (states : List UnitState) (number : ℕ) (c : StageCert) (tried follows : Bool) (line other : ℕ) (reason why : Reason) →
    StageFails d stage states number c tried follows line reason → StageFails d stage states number c tried follows other why → (line ≡ other) × (reason ≡ why)
stage-one all d stage states number c true true line other reason why one two = below-one all d stage states number c line other reason why one two
stage-one all d stage states number c true false line other reason why one two = (one.0 ∙ sym two.0, one.1 ∙ sym two.1)
stage-one all d stage states number c false true line other reason why one two = (one.0 ∙ sym two.0, one.1 ∙ sym two.1)
stage-one all d stage states number c false false line other reason why one two = absurd one

stage-not_both : AllSame → (d : Declaration) (stage : ℕ) (states : List UnitState) (number : ℕ) (c : StageCert) (tried follows : Bool) (line : ℕ) (reason : Reason) →
    StagePasses d stage states c tried follows → StageFails d stage states number c tried follows line reason → ⊥
stage-not_both all d stage states number c true true line reason one two = below-not_both all d stage states number c line reason one two
stage-not_both all d stage states number c true false line reason one two = one
stage-not_both all d stage states number c false true line reason one two = one
stage-not_both all d stage states number c false false line reason one two = two

-- ---- all stages

pub stages-one : AllSame → (d : Declaration) (units : List SlotUnit) (earlier : Choices) (number : ℕ) (certs : List StageCert) (line other : ℕ) (reason why : Reason) →
    StagesFail d units earlier number certs line reason → StagesFail d units earlier number certs other why → (line ≡ other) × (reason ≡ why)
stages-one all d units earlier number [] line other reason why one two = absurd one
stages-one all d units earlier number (c ∷ certs) line other reason why one two =
    let stage = length earlier + 1 in
    let states = states_after d units earlier in
    elim one [
      | inl here ↦ elim two [
        | inl also ↦ stage-one all d stage states number c (is_tried c.mark) (may_follow earlier) line other reason why here also
        | inr later ↦ absurd (stage-not_both all d stage states number c (is_tried c.mark) (may_follow earlier) line reason later.0 here)
      ]
      | inr later ↦ elim two [
        | inl here ↦ absurd (stage-not_both all d stage states number c (is_tried c.mark) (may_follow earlier) other why later.0 here)
        | inr also ↦ stages-one all d units (earlier ++ c.choice ∷ []) (number + length (stage_lines stage c)) certs line other reason why later.1 also.1
      ]
    ]

-- what is said of problems that are alike
pub record AlikeLaws : Type 0 where
  pub cost : (p q : ProblemView) (x : List ℕ) → AreAlike p q → choice_cost p x ≡ choice_cost q x
  pub whole : (p q : ProblemView) → AreAlike p q → whole_of p ≡ whole_of q
  pub node : (p q : ProblemView) (vectors : List (List Price)) (cost : Option ℕ) (ranges : List (ℕ × ℕ)) (node : Node) → AreAlike p q → NodeHolds p vectors cost ranges node → NodeHolds q vectors cost ranges node
  pub tree : (p q : ProblemView) (vectors : List (List Price)) (fixing : Option Fixing) → AreAlike p q → AreAlike (tree_problem p vectors fixing) (tree_problem q vectors fixing)
  pub holds : (p q : ProblemView) (vectors : List (List Price)) (cost : Option ℕ) (f : Fixing) → AreAlike p q → FixingHolds p vectors cost f → FixingHolds q vectors cost f

-- two problems of some units under the same limits
pub allotment-same : AlikeLaws → (d : Declaration) (units : List SlotUnit) (limit : ℕ → ℕ) (p q : ProblemView) → IsAllotmentProblem d units limit p → IsAllotmentProblem d units limit q → AreSame p q
allotment-same law d units limit p q one two =
    let alike = problems-alike d units limit p q one two in
    record {
      alike = alike;
      alts = λ u. problems-alts d units limit p q one two u;
      uses = λ u a r. problems-uses d units limit p q one two u a r;
      cost = λ x. law.cost p q x alike;
      holds = λ vectors cost f. law.holds p q vectors cost f alike;
      whole = λ vectors fixing. law.whole (tree_problem p vectors fixing) (tree_problem q vectors fixing) (law.tree p q vectors fixing alike);
      node = λ vectors fixing cost ranges n. law.node (tree_problem p vectors fixing) (tree_problem q vectors fixing) vectors cost ranges n (law.tree p q vectors fixing alike);
    }

-- and two problems of one stage
pub stage-same : AlikeLaws → AllSame
stage-same law d stage states p q one two = allotment-same law d (stage_units stage states) (stage_limit d stage states) p q one two
