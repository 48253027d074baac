-- A certificate is valid, or has a first failing line, and never both.
use Rattle.std.proofs.Common.{◌≡◌, ℕ, zero, suc, ◌+◌, ◌<◌, ◌≤◌, ◌^◌, ◌++◌, refl, sym, ◌∙◌, ap, subst, arith, List, [], ◌∷◌, length, get_or, drop, length-append, inl, inr, Bool, true, false}
use Rattle.std.specs.Prelude.{codes, if◌then◌else◌, Option, ◌↔◌}
use Rattle.std.specs.List.{AllByRecursion}
use Rattle.std.proofs.lemmas.List.{drop_more}
use Rattle.season_days.specs.declared.declaration.Declaration.{Declaration}
use Rattle.choice_problem.specs.Problems.{ProblemView}
use Rattle.cert_format.specs.declared.cert.StageCert.{StageCert}
use Rattle.cert_format.specs.declared.cert.Certificate.{Certificate}
use Rattle.cert_format.specs.Printable.{IsPrintable, IsPrintableProof, IsPrintableStage, IsPrintableAs}
use Rattle.cert_format.specs.Proofs.{IsProof}
use Rattle.cert_format.specs.Spelling.{is_tried, stage_lines, proof_lines, numbered}
use Rattle.series_model.specs.declared.unit.Unit.{Unit as SlotUnit}
use Rattle.series_model.specs.declared.state.UnitState.{UnitState}
use Rattle.series_model.specs.Stages.{AreStates, first_states, after_stage, states_after, may_follow, stage_units, stage_limit}
use Rattle.series_model.specs.Submissions.{SubmissionView}
use Rattle.choice_problem.specs.Alike.{AreAlike}
use Rattle.wasg_stages.specs.StageProblems.{IsStageProblem}
use Rattle.wasg_stages.specs.Valid.{IsStageAs, AreStages, IsValid}
use Rattle.cert_checker.specs.declared.verdict.Reason.{Reason}
use Rattle.cert_checker.specs.declared.verdict.Reason.TheVariants as because
use Rattle.cert_checker.specs.declared.verdict.Verdict.{Verdict}
use Rattle.cert_checker.specs.declared.verdict.Verdict.TheVariants.{Yes, No}
use Rattle.cert_checker.specs.Tests.{Passes, proof_tests}
use Rattle.cert_checker.specs.Verdicts.{NoneFails, IsStageVerdict}
use Rattle.cert_checker.specs.Certificates.{Choices, StageFails, StagePasses, StagesFail, FailsAt, IsCheck}
use Rattle.cert_checker.specs.Blocks.{IsBlockVerdict}
use Rattle.cert_checker.proofs.VerdictLemmas.{IsFirstFailing-not_none}
use Rattle.cert_checker.proofs.PassLemmas.{passing-proof}
use Rattle.cert_checker.proofs.AlikeLemmas.{problems-alike}

true_is_not_false : true ≡ false → ⊥
true_is_not_false e = cc

-- ---- valid, and without a first failing line

abbrev ProofPasses : Type 0
ProofPasses = (p : ProblemView) (version : ℕ) (c : StageCert) → IsPrintableProof version c → IsProof p c → NoneFails (Passes p c) (proof_tests p c)

abbrev ProofsAlike : Type 0
ProofsAlike = (p q : ProblemView) (c : StageCert) → AreAlike p q → IsProof p c → IsProof q c

stage-not_both : ProofPasses → ProofsAlike → (d : Declaration) (units : List SlotUnit) (earlier : Choices) (version number : ℕ) (c : StageCert) (tried follows : Bool) (line : ℕ) (reason : Reason) →
    follows ≡ may_follow earlier → IsPrintableAs version c tried → IsStageAs d units earlier c tried → StageFails d (length earlier + 1) (states_after d units earlier) number c tried follows line reason → ⊥
stage-not_both passes alike d units earlier version number c true true line reason is printable valid fails =
    let stage = length earlier + 1 in
    let states = states_after d units earlier in
    let same = problems-alike d (stage_units stage states) (stage_limit d stage states) valid.1.problem fails.0 valid.1.problem_is fails.1 in
    let none = passes fails.0 version c printable (alike valid.1.problem fails.0 c same valid.1.proof) in
    IsFirstFailing-not_none (Passes fails.0 c) (suc number) (proof_tests fails.0 c) line reason none fails.2
stage-not_both passes alike d units earlier version number c true false line reason is printable valid fails = true_is_not_false (sym valid.0 ∙ sym is)
stage-not_both passes alike d units earlier version number c false true line reason is printable valid fails = true_is_not_false (is ∙ valid)
stage-not_both passes alike d units earlier version number c false false line reason is printable valid fails = fails

pub stages-not_both : ProofPasses → ProofsAlike → (d : Declaration) (units : List SlotUnit) (earlier : Choices) (version number : ℕ) (certs : List StageCert) (line : ℕ) (reason : Reason) →
    AllByRecursion (IsPrintableStage version) certs → AreStages d units earlier certs → StagesFail d units earlier number certs line reason → ⊥
stages-not_both passes alike d units earlier version number [] line reason printable valid fails = fails
stages-not_both passes alike d units earlier version number (c ∷ certs) line reason printable valid fails =
    elim fails [
      | inl here ↦ stage-not_both passes alike d units earlier version number c (is_tried c.mark) (may_follow earlier) line reason refl printable.0 valid.0 here
      | inr later ↦ stages-not_both passes alike d units (earlier ++ c.choice ∷ []) version (number + length (stage_lines (length earlier + 1) c)) certs line reason printable.1 valid.1 later.1
    ]

-- so Yes is said exactly of a valid one
pub check-valid : (s : SubmissionView) (c : Certificate) (verdict : Verdict) → ((line : ℕ) (reason : Reason) → IsValid s c → FailsAt s c line reason → ⊥) → IsCheck s c verdict → verdict ≡ Yes ↔ IsValid s c
check-valid s c Yes not_both is = ((λ e. is), (λ valid. refl))
check-valid s c (No line reason) not_both is = ((λ e. let no : ⊥ = cc in absurd no), (λ valid. absurd (not_both line reason valid is)))

-- ---- one stage after the other

-- the law of the model
abbrev pub OneMoreStage : Type 0
OneMoreStage = (d : Declaration) (units : List SlotUnit) (choices : Choices) (choice : Option (List ℕ)) →
    states_after d units (choices ++ choice ∷ []) ≡ after_stage d (length choices + 1) (states_after d units choices) choice

-- what the answer of the model on the next stage says
abbrev pub MayFollowNext : ℕ → Bool → Option (List ℕ) → Bool → Type 0
MayFollowNext stage follows choice next = (earlier : Choices) → stage ≡ length earlier + 1 → follows ≡ may_follow earlier → next ≡ may_follow (earlier ++ choice ∷ [])

-- a check before some stage: what is still to come decides the whole
pub record IsOn (s : SubmissionView) (c : Certificate) (stage : ℕ) (states : List UnitState) (follows : Bool) (number : ℕ) (certs : List StageCert) : Type 0 where
  pub earlier : Choices
  pub stage_is : stage ≡ length earlier + 1
  pub states_is : states ≡ states_after s.declaration s.units earlier
  pub follows_is : follows ≡ may_follow earlier
  pub fit : AreStates s states
  pub printable : AllByRecursion (IsPrintableStage c.version) certs
  pub lines : number + length (numbered stage_lines stage certs) < 2 ^ 32
  pub valid : AreStages s.declaration s.units earlier certs → IsValid s c
  pub fails : (line : ℕ) (reason : Reason) → StagesFail s.declaration s.units earlier number certs line reason → FailsAt s c line reason

pub IsOn-start : (s : SubmissionView) (c : Certificate) (states : List UnitState) → IsPrintable c → states ≡ first_states s.units → AreStates s states → IsOn s c 1 states true 2 c.stages
IsOn-start s c states printable is fit = record {
  earlier = [];
  stage_is = omega arith;
  states_is = is;
  follows_is = refl;
  fit = fit;
  printable = printable.stages;
  lines = omega (arith, printable.few, length-append (numbered stage_lines 1 c.stages) ((codes "END" ∷ []) ∷ []));
  valid = λ valid. record { form = printable; stages = valid };
  fails = λ line reason fails. fails;
}

-- the lines of one more stage are there
pub IsOn-room : (s : SubmissionView) (c : Certificate) (stage : ℕ) (states : List UnitState) (follows : Bool) (number : ℕ) (block : StageCert) (certs : List StageCert) →
    IsOn s c stage states follows number (block ∷ certs) → number + length (stage_lines stage block) < 2 ^ 32
IsOn-room s c stage states follows number block certs on =
    omega (arith, on.lines, length-append (stage_lines stage block) (numbered stage_lines (suc stage) certs))

module _ (s : SubmissionView) (c : Certificate) (stage : ℕ) (states : List UnitState) (follows : Bool) (number : ℕ) (block : StageCert) (certs : List StageCert) (on : IsOn s c stage states follows number (block ∷ certs)) where
  passes-here : StagePasses s.declaration stage states block (is_tried block.mark) follows →
      StagePasses s.declaration (length on.earlier + 1) (states_after s.declaration s.units on.earlier) block (is_tried block.mark) (may_follow on.earlier)
  passes-here h =
      let one = subst (λ (k : ℕ). StagePasses s.declaration k states block (is_tried block.mark) follows) on.stage_is h in
      let two = subst (λ (st : List UnitState). StagePasses s.declaration (length on.earlier + 1) st block (is_tried block.mark) follows) on.states_is one in
      subst (λ (b : Bool). StagePasses s.declaration (length on.earlier + 1) (states_after s.declaration s.units on.earlier) block (is_tried block.mark) b) on.follows_is two

  fails-here : (line : ℕ) (reason : Reason) → StageFails s.declaration stage states number block (is_tried block.mark) follows line reason →
      StageFails s.declaration (length on.earlier + 1) (states_after s.declaration s.units on.earlier) number block (is_tried block.mark) (may_follow on.earlier) line reason
  fails-here line reason h =
      let one = subst (λ (k : ℕ). StageFails s.declaration k states number block (is_tried block.mark) follows line reason) on.stage_is h in
      let two = subst (λ (st : List UnitState). StageFails s.declaration (length on.earlier + 1) st number block (is_tried block.mark) follows line reason) on.states_is one in
      subst (λ (b : Bool). StageFails s.declaration (length on.earlier + 1) (states_after s.declaration s.units on.earlier) number block (is_tried block.mark) b line reason) on.follows_is two

  -- a verdict on a stage that is not Yes is the verdict on the certificate
  pub refused-here : (verdict : Verdict) (next : ℕ) → (verdict ≡ Yes → ⊥) → IsBlockVerdict s.declaration stage states follows number block verdict next → IsCheck s c verdict
  refused-here Yes next refused is = absurd (refused refl)
  refused-here (No line reason) next refused is = on.fails line reason (inl (fails-here line reason is))

stage-valid : (d : Declaration) (units : List SlotUnit) (earlier : Choices) (version : ℕ) (c : StageCert) (tried follows : Bool) → is_tried c.mark ≡ tried → follows ≡ may_follow earlier → IsPrintableAs version c tried →
    StagePasses d (length earlier + 1) (states_after d units earlier) c tried follows → IsStageAs d units earlier c tried
stage-valid d units earlier version c true true tried is printable passes =
    (sym is, record { problem = passes.0; problem_is = passes.1; proof = passing-proof passes.0 version c tried printable passes.2 })
stage-valid d units earlier version c true false tried is printable passes = absurd passes
stage-valid d units earlier version c false true tried is printable passes = absurd passes
stage-valid d units earlier version c false false tried is printable passes = sym is

-- a stage that passes
pub IsOn-next : OneMoreStage → (s : SubmissionView) (c : Certificate) (stage : ℕ) (states after : List UnitState) (follows next_follows : Bool) (number next : ℕ) (block : StageCert) (certs : List StageCert) (verdict : Verdict) →
    IsOn s c stage states follows number (block ∷ certs) → verdict ≡ Yes → IsBlockVerdict s.declaration stage states follows number block verdict next →
    after ≡ after_stage s.declaration stage states block.choice → AreStates s after → MayFollowNext stage follows block.choice next_follows →
    IsOn s c (stage + 1) after next_follows next certs
IsOn-next more s c stage states after follows next_follows number next block certs verdict on passing judged after_is fit answer =
    let d = s.declaration in
    let passed = subst (λ (v : Verdict). IsBlockVerdict d stage states follows number block v next) passing judged in
    let passes = passes-here s c stage states follows number block certs on passed.0 in
    let count : suc stage ≡ stage + 1 = omega arith in
    let lines_same = ap (λ (k : ℕ). length (numbered stage_lines k certs)) count in
    let next_is = passed.1 ∙ ap (λ (k : ℕ). number + length (stage_lines k block)) on.stage_is in
    record {
      earlier = on.earlier ++ block.choice ∷ [];
      stage_is = omega (arith, on.stage_is, length-append on.earlier (block.choice ∷ []));
      states_is = after_is ∙ ap (λ (st : List UnitState). after_stage d stage st block.choice) on.states_is
          ∙ ap (λ (k : ℕ). after_stage d k (states_after d s.units on.earlier) block.choice) on.stage_is
          ∙ sym (more d s.units on.earlier block.choice);
      follows_is = answer on.earlier on.stage_is on.follows_is;
      fit = fit;
      printable = on.printable.1;
      lines = omega (arith, on.lines, passed.1, lines_same, length-append (stage_lines stage block) (numbered stage_lines (suc stage) certs));
      valid = λ valid. on.valid (stage-valid d s.units on.earlier c.version block (is_tried block.mark) (may_follow on.earlier) refl refl on.printable.0 passes, valid);
      fails = λ line reason fails. on.fails line reason
          (inr (passes, subst (λ (k : ℕ). StagesFail d s.units (on.earlier ++ block.choice ∷ []) k certs line reason) next_is fails));
    }

-- the end
drop-past : {X : Type 0} (xs : List X) (i : ℕ) → length xs ≤ i → drop i xs ≡ []
drop-past [] zero le = refl
drop-past [] (suc i) le = refl
drop-past (x ∷ xs) zero le = absurd (omega arith)
drop-past (x ∷ xs) (suc i) le = drop-past xs i (omega arith)

pub IsOn-finish : (s : SubmissionView) (c : Certificate) (stage : ℕ) (states : List UnitState) (follows : Bool) (number i : ℕ) → length c.stages ≤ i → IsOn s c stage states follows number (drop i c.stages) → IsValid s c
IsOn-finish s c stage states follows number i le on =
    let end : IsOn s c stage states follows number [] = subst (IsOn s c stage states follows number) (drop-past c.stages i le) on in
    end.valid tt

-- the stages left, and the first of them
pub IsOn-cut : (s : SubmissionView) (c : Certificate) (stage : ℕ) (states : List UnitState) (follows : Bool) (number i : ℕ) (block : StageCert) → i < length c.stages → block ≡ get_or c.stages i block →
    IsOn s c stage states follows number (drop i c.stages) → IsOn s c stage states follows number (block ∷ drop (i + 1) c.stages)
IsOn-cut s c stage states follows number i block lt is on =
    subst (IsOn s c stage states follows number) (drop_more c.stages i block lt ∙ ap (λ (b : StageCert). b ∷ drop (i + 1) c.stages) (sym is)) on

-- ---- one block

-- a verdict on the lines of a stage that was tried and may be
pub tried-verdict : (d : Declaration) (stage : ℕ) (states : List UnitState) (number next : ℕ) (c : StageCert) (p : ProblemView) (verdict : Verdict) → is_tried c.mark ≡ true → IsStageProblem d stage states p →
    IsStageVerdict p c number verdict → (verdict ≡ Yes → next ≡ number + (length (proof_lines c) + 1)) → IsBlockVerdict d stage states true number c verdict next
tried-verdict d stage states number next c p Yes tried problem is counted =
    let long : length (stage_lines stage c) ≡ length (proof_lines c) + 1 = ap (λ (b : Bool). suc (length (if b then proof_lines c else []))) tried ∙ omega arith in
    (subst (λ (b : Bool). StagePasses d stage states c b true) (sym tried) (p, problem, is), counted refl ∙ ap (λ (k : ℕ). number + k) (sym long))
tried-verdict d stage states number next c p (No line reason) tried problem is counted =
    subst (λ (b : Bool). StageFails d stage states number c b true line reason) (sym tried) (p, problem, is)

-- the mark is wrong
mark-fails : (d : Declaration) (stage : ℕ) (states : List UnitState) (number : ℕ) (c : StageCert) (tried follows : Bool) → (tried ≡ follows → ⊥) → StageFails d stage states number c tried follows number because.Mark
mark-fails d stage states number c true true refused = absurd (refused refl)
mark-fails d stage states number c true false refused = (refl, refl)
mark-fails d stage states number c false true refused = (refl, refl)
mark-fails d stage states number c false false refused = absurd (refused refl)

pub mark-refused : (d : Declaration) (stage : ℕ) (states : List UnitState) (number next : ℕ) (c : StageCert) (follows : Bool) → (is_tried c.mark ≡ follows → ⊥) →
    IsBlockVerdict d stage states follows number c (No number because.Mark) next
mark-refused d stage states number next c follows refused = mark-fails d stage states number c (is_tried c.mark) follows refused

-- a stage that was not tried, and may not be
pub untried-passes : (d : Declaration) (stage : ℕ) (states : List UnitState) (number : ℕ) (c : StageCert) (follows : Bool) → is_tried c.mark ≡ false → is_tried c.mark ≡ follows → IsBlockVerdict d stage states follows number c Yes (number + 1)
untried-passes d stage states number c follows tried is =
    let long : length (stage_lines stage c) ≡ 1 = ap (λ (b : Bool). suc (length (if b then proof_lines c else []))) tried in
    let both : StagePasses d stage states c (is_tried c.mark) (is_tried c.mark) = subst (λ (b : Bool). StagePasses d stage states c b b) (sym tried) tt in
    (subst (λ (b : Bool). StagePasses d stage states c (is_tried c.mark) b) is both, ap (λ (k : ℕ). number + k) (sym long))

pub printable-tried : (version : ℕ) (c : StageCert) → is_tried c.mark ≡ true → IsPrintableStage version c → IsPrintableProof version c
printable-tried version c tried printable = subst (λ (b : Bool). IsPrintableAs version c b) tried printable

pub tried-room : (stage number : ℕ) (c : StageCert) → is_tried c.mark ≡ true → number + length (stage_lines stage c) < 2 ^ 32 → number + (length (proof_lines c) + 1) < 2 ^ 32
tried-room stage number c tried room =
    let long : length (stage_lines stage c) ≡ length (proof_lines c) + 1 = ap (λ (b : Bool). suc (length (if b then proof_lines c else []))) tried ∙ omega arith in
    omega (arith, room, long)
