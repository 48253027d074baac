-- The stages of a run, one after the other.
use Rattle.std.proofs.Common.{◌≡◌, ℕ, zero, suc, ◌+◌, ◌<◌, ◌≤◌, ◌⊎◌, inl, inr, get_or, drop, refl, sym, ◌∙◌, ap, subst, arith, List, [], ◌∷◌, ◌++◌, length, length-append, append_assoc, Bool, true, false, Option, Some, None}
use Rattle.std.specs.Prelude.{All, is_some}
use Rattle.std.specs.Option.{option_map_or}
use Rattle.std.proofs.lemmas.List.{drop_more}
use Rattle.std.specs.List.{AllByRecursion}
use Rattle.std.proofs.lemmas.List.Elements.{All-cons, All-nil}
use Rattle.season_days.specs.declared.declaration.Declaration.{Declaration}
use Rattle.cert_format.specs.declared.cert.Mark.{Mark}
use Rattle.cert_format.specs.declared.cert.Mark.TheVariants as marks
use Rattle.cert_format.specs.declared.cert.StageCert.{StageCert}
use Rattle.cert_format.specs.declared.cert.Certificate.{Certificate}
use Rattle.cert_format.specs.declared.cert.TheConstants.{MOST_LINES}
use Rattle.cert_format.specs.Spelling.{is_tried, has_bound, cert_lines, HoldsNothing}
use Rattle.cert_format.specs.Printable.{IsPrintable, IsPrintableStage, IsPrintableAs, IsWithinLimits}
use Rattle.series_model.specs.declared.unit.Unit.{Unit as SlotUnit}
use Rattle.series_model.specs.declared.state.UnitState.{UnitState}
use Rattle.series_model.specs.Stages.{first_states, after_stage, states_after, may_follow, AreStates}
use Rattle.series_model.specs.Submissions.{SubmissionView}
use Rattle.wasg_stages.specs.Valid.{IsStageAs, AreStages}
use Rattle.season_run.specs.Runs.{IsTriedRun, IsRunAs, AreStageRuns, IsRun, AreEnough, version_for}
use Rattle.cost_fixing.specs.declared.fixings.Fixing.{Fixing}
use Rattle.season_run.specs.declared.ties.LastStages.{LastStages}
use Rattle.season_run.specs.Steps.{FitsSeason, AreLastStages, AreRunSoFar, IsNextStage}

-- ---- the stages so far

pub so_far_start : (s : SubmissionView) (budget : ℕ) (states : List UnitState) → states ≡ first_states s.units → AreStates s states → AreRunSoFar s budget 1 states true []
so_far_start s budget states is fit = record {
  earlier = [];
  stage_is = omega arith;
  states_are = is;
  follows_is = refl;
  fit = fit;
  count = omega arith;
  fit_certs = tt;
  valid = λ rest h. h;
  runs = λ rest h. h;
}

fits-push : (certs : List StageCert) (c : StageCert) → AllByRecursion FitsSeason certs → FitsSeason c → AllByRecursion FitsSeason (certs ++ c ∷ [])
fits-push [] c all f = (f, tt)
fits-push (one ∷ certs) c all f = (all.0, fits-push certs c all.1 f)

-- what one more stage is after these choices
next-valid : (d : Declaration) (units : List SlotUnit) (earlier : List (Option (List ℕ))) (budget : ℕ) (c : StageCert) (tried follows : Bool) → is_tried c.mark ≡ tried → follows ≡ may_follow earlier →
    IsNextStage d (length earlier + 1) (states_after d units earlier) budget c follows → IsStageAs d units earlier c tried
next-valid d units earlier budget c true true t is h = (sym is, record { problem = h.1.problem; problem_is = h.1.problem_is; proof = h.1.run.proof })
next-valid d units earlier budget c true false t is h = (let no : true ≡ false = sym t ∙ h in cc)
next-valid d units earlier budget c false true t is h = (let no : false ≡ true = sym t ∙ h.0 in cc)
next-valid d units earlier budget c false false t is h = sym is

next-run : (d : Declaration) (stage : ℕ) (states : List UnitState) (budget : ℕ) (c : StageCert) (tried follows : Bool) → is_tried c.mark ≡ tried → IsNextStage d stage states budget c follows →
    IsRunAs d stage states budget c tried
next-run d stage states budget c true true t h = h.1
next-run d stage states budget c true false t h = (let no : true ≡ false = sym t ∙ h in cc)
next-run d stage states budget c false follows t h = tt

pub so_far_next : ((d : Declaration) (units : List SlotUnit) (choices : List (Option (List ℕ))) (choice : Option (List ℕ)) →
    states_after d units (choices ++ choice ∷ []) ≡ after_stage d (length choices + 1) (states_after d units choices) choice) →
    (s : SubmissionView) (budget stage : ℕ) (states after : List UnitState) (follows next : Bool) (certs : List StageCert) (c : StageCert) →
    AreRunSoFar s budget stage states follows certs → IsNextStage s.declaration stage states budget c follows → FitsSeason c →
    after ≡ after_stage s.declaration stage states c.choice → AreStates s after →
    ((earlier : List (Option (List ℕ))) → stage ≡ length earlier + 1 → follows ≡ may_follow earlier → next ≡ may_follow (earlier ++ c.choice ∷ [])) →
    AreRunSoFar s budget (stage + 1) after next (certs ++ c ∷ [])
so_far_next one_more s budget stage states after follows next certs c on stage_next fits after_is fit goes_on =
    let d = s.declaration in
    let one = subst (λ (k : ℕ). IsNextStage d k states budget c follows) on.stage_is stage_next in
    let here = subst (λ (st : List UnitState). IsNextStage d (length on.earlier + 1) st budget c follows) on.states_are one in
    record {
      earlier = on.earlier ++ c.choice ∷ [];
      stage_is = omega (arith, on.stage_is, length-append on.earlier (c.choice ∷ []));
      states_are = after_is ∙ ap (λ (st : List UnitState). after_stage d stage st c.choice) on.states_are
          ∙ ap (λ (k : ℕ). after_stage d k (states_after d s.units on.earlier) c.choice) on.stage_is
          ∙ sym (one_more d s.units on.earlier c.choice);
      follows_is = goes_on on.earlier on.stage_is on.follows_is;
      fit = fit;
      count = omega (arith, on.count, length-append certs (c ∷ []));
      fit_certs = fits-push certs c on.fit_certs fits;
      valid = λ rest h. subst (λ (l : List StageCert). AreStages d s.units [] l) (sym (append_assoc certs (c ∷ []) rest))
          (on.valid (c ∷ rest) (next-valid d s.units on.earlier budget c (is_tried c.mark) follows refl on.follows_is here, h));
      runs = λ rest h. subst (λ (l : List StageCert). AreStageRuns d s.units budget [] l) (sym (append_assoc certs (c ∷ []) rest))
          (on.runs (c ∷ rest) (next-run d (length on.earlier + 1) (states_after d s.units on.earlier) budget c (is_tried c.mark) follows refl here, h));
    }

-- ---- the version

which-one : (fixing : Option Fixing) (rest : ℕ) → (option_map_or (λ f. 3) fixing rest ≡ 3) ⊎ ((option_map_or (λ f. 3) fixing rest ≡ rest) × (fixing ≡ None))
which-one None rest = inr (refl, refl)
which-one (Some f) rest = inl refl

-- it is 3, or it is 2 and no stage has a fixing
which : (certs : List StageCert) → (version_for certs ≡ 3) ⊎ ((version_for certs ≡ 2) × AllByRecursion (λ (c : StageCert). c.fixing ≡ None) certs)
which [] = inr (refl, tt)
which (c ∷ certs) = elim (which-one c.fixing (version_for certs)) [
  | inl three ↦ inl three
  | inr same ↦ elim (which certs) [
    | inl three ↦ inl (same.0 ∙ three)
    | inr two ↦ inr (same.0 ∙ two.0, (same.1, two.1))
  ]
]

same-bound : (m : Mark) → has_bound 3 m ≡ has_bound 2 m
same-bound marks.Optimal = refl
same-bound marks.Infeasible = refl
same-bound marks.Unsettled = refl
same-bound marks.NotTried = refl

printable-two : (c : StageCert) (tried : Bool) → c.fixing ≡ None → IsPrintableAs 3 c tried → IsPrintableAs 2 c tried
printable-two c true e h = record {
  has_cost = h.has_cost;
  has_bound = h.has_bound ∙ same-bound c.mark;
  vector_count = h.vector_count;
  fixed_from = rw e tt;
  floor_count = h.floor_count;
}
printable-two c false e h = h

printables-three : (certs : List StageCert) → AllByRecursion FitsSeason certs → AllByRecursion (IsPrintableStage 3) certs
printables-three [] h = tt
printables-three (c ∷ certs) h = (h.0.printable, printables-three certs h.1)

printables-two : (certs : List StageCert) → AllByRecursion FitsSeason certs → AllByRecursion (λ (c : StageCert). c.fixing ≡ None) certs → AllByRecursion (IsPrintableStage 2) certs
printables-two [] h none = tt
printables-two (c ∷ certs) h none = (printable-two c (is_tried c.mark) none.0 h.0.printable, printables-two certs h.1 none.1)

printables : (certs : List StageCert) → AllByRecursion FitsSeason certs → AllByRecursion (IsPrintableStage (version_for certs)) certs
printables certs h = elim (which certs) [
  | inl three ↦ subst (λ (v : ℕ). AllByRecursion (IsPrintableStage v) certs) (sym three) (printables-three certs h)
  | inr two ↦ subst (λ (v : ℕ). AllByRecursion (IsPrintableStage v) certs) (sym two.0) (printables-two certs h two.1)
]

version-small : (certs : List StageCert) → (1 ≤ version_for certs) × (version_for certs ≤ 3)
version-small certs = elim (which certs) [
  | inl three ↦ (omega (arith, three), omega (arith, three))
  | inr two ↦ (omega (arith, two.0), omega (arith, two.0))
]

-- the version so far, and at the end
pub version-next : (certs : List StageCert) (i : ℕ) (d : StageCert) → i < length certs → (get_or certs i d).fixing ≡ None → version_for (drop i certs) ≡ version_for (drop (i + 1) certs)
version-next certs i d lt none = ap (λ (l : List StageCert). version_for l) (drop_more certs i d lt) ∙ ap (λ (f : Option Fixing). option_map_or (λ g. 3) f (version_for (drop (i + 1) certs))) none

fixed-three : (fixing : Option Fixing) (rest : ℕ) → is_some fixing ≡ true → option_map_or (λ f. 3) fixing rest ≡ 3
fixed-three None rest e = (let no : false ≡ true = e in cc)
fixed-three (Some f) rest e = refl

pub version-here : (certs : List StageCert) (i : ℕ) (d : StageCert) → i < length certs → is_some (get_or certs i d).fixing ≡ true → version_for (drop i certs) ≡ 3
version-here certs i d lt some = ap (λ (l : List StageCert). version_for l) (drop_more certs i d lt) ∙ fixed-three (get_or certs i d).fixing (version_for (drop (i + 1) certs)) some

nothing-left : (certs : List StageCert) (i : ℕ) → length certs ≤ i → drop i certs ≡ []
nothing-left [] zero past = refl
nothing-left [] (suc i) past = refl
nothing-left (c ∷ certs) zero past = absurd (omega arith)
nothing-left (c ∷ certs) (suc i) past = nothing-left certs i (omega arith)

pub version-end : (certs : List StageCert) (i : ℕ) → length certs ≤ i → version_for (drop i certs) ≡ 2
version-end certs i past = ap (λ (l : List StageCert). version_for l) (nothing-left certs i past)

limits : (certs : List StageCert) → AllByRecursion FitsSeason certs → AllByRecursion IsWithinLimits certs
limits [] h = tt
limits (c ∷ certs) h = (h.0.limits, limits certs h.1)

fits-two : (certs : List StageCert) (c b : StageCert) → AllByRecursion FitsSeason certs → FitsSeason c → FitsSeason b → AllByRecursion FitsSeason (certs ++ c ∷ b ∷ [])
fits-two [] c b all f g = (f, (g, tt))
fits-two (one ∷ certs) c b all f g = (all.0, fits-two certs c b all.1 f g)

-- stages 3 and 4 after the first two
module _ (one_more : (d : Declaration) (units : List SlotUnit) (choices : List (Option (List ℕ))) (choice : Option (List ℕ)) →
    states_after d units (choices ++ choice ∷ []) ≡ after_stage d (length choices + 1) (states_after d units choices) choice)
    (s : SubmissionView) (budget : ℕ) (states : List UnitState) (follows : Bool) (certs : List StageCert) (last : LastStages)
    (on : AreRunSoFar s budget 3 states follows certs) (two : AreLastStages s.declaration states budget follows last) where
  abbrev d-here : Declaration
  d-here = s.declaration

  abbrev more : List (Option (List ℕ))
  more = on.earlier ++ last.third.choice ∷ []

  abbrev rest : List StageCert
  rest = last.third ∷ last.fourth ∷ []

  third-here : IsNextStage d-here (length on.earlier + 1) (states_after d-here s.units on.earlier) budget last.third follows
  third-here =
      let one = subst (λ (k : ℕ). IsNextStage d-here k states budget last.third follows) on.stage_is two.third in
      subst (λ (st : List UnitState). IsNextStage d-here (length on.earlier + 1) st budget last.third follows) on.states_are one

  after-third : after_stage d-here 3 states last.third.choice ≡ states_after d-here s.units more
  after-third = ap (λ (st : List UnitState). after_stage d-here 3 st last.third.choice) on.states_are
      ∙ ap (λ (k : ℕ). after_stage d-here k (states_after d-here s.units on.earlier) last.third.choice) on.stage_is
      ∙ sym (one_more d-here s.units on.earlier last.third.choice)

  fourth-here : IsNextStage d-here (length more + 1) (states_after d-here s.units more) budget last.fourth (may_follow more)
  fourth-here =
      let four : 4 ≡ length more + 1 = omega (arith, on.stage_is, length-append on.earlier (last.third.choice ∷ [])) in
      let one = two.fourth on.earlier (omega (arith, on.stage_is)) on.follows_is in
      let later = subst (λ (k : ℕ). IsNextStage d-here k (after_stage d-here 3 states last.third.choice) budget last.fourth (may_follow more)) four one in
      subst (λ (st : List UnitState). IsNextStage d-here (length more + 1) st budget last.fourth (may_follow more)) after-third later

  all-valid : AreStages d-here s.units [] (certs ++ rest)
  all-valid = on.valid rest (
    next-valid d-here s.units on.earlier budget last.third (is_tried last.third.mark) follows refl on.follows_is third-here,
    (next-valid d-here s.units more budget last.fourth (is_tried last.fourth.mark) (may_follow more) refl refl fourth-here, tt),
  )

  all-runs : AreStageRuns d-here s.units budget [] (certs ++ rest)
  all-runs = on.runs rest (
    next-run d-here (length on.earlier + 1) (states_after d-here s.units on.earlier) budget last.third (is_tried last.third.mark) follows refl third-here,
    (next-run d-here (length more + 1) (states_after d-here s.units more) budget last.fourth (is_tried last.fourth.mark) (may_follow more) refl fourth-here, tt),
  )

  -- all four
  pub so_far_finish : ((c : Certificate) → length c.stages ≡ 4 → AllByRecursion IsWithinLimits c.stages → length (cert_lines c) ≤ MOST_LINES) →
      (c : Certificate) → c.version ≡ version_for c.stages → c.stages ≡ certs ++ last.third ∷ last.fourth ∷ [] → IsRun s budget c
  so_far_finish few c version is =
      let fits = fits-two certs last.third last.fourth on.fit_certs two.third_fits two.fourth_fits in
      let count : length c.stages ≡ 4 = omega (arith, on.count, ap (λ (l : List StageCert). length l) is, length-append certs rest) in
      let within : AllByRecursion IsWithinLimits c.stages = subst (λ (l : List StageCert). AllByRecursion IsWithinLimits l) (sym is) (limits (certs ++ rest) fits) in
      let printable : AllByRecursion (IsPrintableStage (version_for c.stages)) c.stages =
      subst (λ (l : List StageCert). AllByRecursion (IsPrintableStage (version_for l)) l) (sym is) (printables (certs ++ rest) fits) in
      let form : IsPrintable c = record {
        version = subst (λ (v : ℕ). (1 ≤ v) × (v ≤ 3)) (sym version) (version-small c.stages);
        count = count;
        stages = subst (λ (v : ℕ). AllByRecursion (IsPrintableStage v) c.stages) (sym version) printable;
        few = few c count within;
      } in
      record {
        version = version;
        valid = record { form = form; stages = subst (λ (l : List StageCert). AreStages s.declaration s.units [] l) (sym is) all-valid };
        stages = subst (λ (l : List StageCert). AreStageRuns s.declaration s.units budget [] l) (sym is) all-runs;
        limits = within;
      }

-- ---- a stage that is not tried

untried-limits : (c : StageCert) → HoldsNothing c → IsWithinLimits c
untried-limits c h = record {
  units = rw h.choice tt;
  vectors = rw h.vectors (omega arith);
  prices = rw h.vectors (omega arith);
  nodes = rw h.tree (omega arith);
  budget = rw h.tree (omega arith);
  floors = rw h.floors tt;
}

pub untried-fits : (c : StageCert) → c.mark ≡ marks.NotTried → HoldsNothing c → FitsSeason c
untried-fits c e h = record {
  printable = subst (λ (m : Mark). IsPrintableAs 3 c (is_tried m)) (sym e) h;
  limits = untried-limits c h;
}

pub untried-next : (d : Declaration) (stage : ℕ) (states : List UnitState) (budget : ℕ) (c : StageCert) (follows : Bool) → follows ≡ false → c.mark ≡ marks.NotTried → IsNextStage d stage states budget c follows
untried-next d stage states budget c follows e m = rw e (ap (λ (k : Mark). is_tried k) m)

pub tried-next : (d : Declaration) (stage : ℕ) (states : List UnitState) (budget : ℕ) (c : StageCert) (follows : Bool) → follows ≡ true → is_tried c.mark ≡ true → IsTriedRun d stage states budget c →
    IsNextStage d stage states budget c follows
tried-next d stage states budget c follows e t r = rw e (t, r)

-- ---- a budget that is enough

not-open : (d : Declaration) (stage : ℕ) (states : List UnitState) (budget : ℕ) (c : StageCert) (tried : Bool) → is_tried c.mark ≡ tried → IsRunAs d stage states budget c tried →
    (IsTriedRun d stage states budget c → c.mark ≡ marks.Unsettled → ⊥) → c.mark ≡ marks.Unsettled → ⊥
not-open d stage states budget c true t r f e = f r e
not-open d stage states budget c false t r f e = (let no : false ≡ true = sym t ∙ ap (λ (k : Mark). is_tried k) e in cc)

pub none-open : (d : Declaration) (units : List SlotUnit) (budget : ℕ) (earlier : List (Option (List ℕ))) (certs : List StageCert) → AreStageRuns d units budget earlier certs →
    AreEnough d units budget earlier certs → All (λ (b : StageCert). b.mark ≡ marks.Unsettled → ⊥) certs
none-open d units budget earlier [] runs enough = All-nil (λ (b : StageCert). b.mark ≡ marks.Unsettled → ⊥)
none-open d units budget earlier (c ∷ certs) runs enough =
    All-cons (λ (b : StageCert). b.mark ≡ marks.Unsettled → ⊥) c certs
    (not-open d (length earlier + 1) (states_after d units earlier) budget c (is_tried c.mark) refl runs.0 (λ r. r.settled enough.0))
    (none-open d units budget (earlier ++ c.choice ∷ []) certs runs.1 enough.1)
