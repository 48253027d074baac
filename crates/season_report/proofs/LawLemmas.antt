-- What lines of reasons show of the stages of a valid certificate.
use Rattle.std.proofs.Common.{◌≡◌, ℕ, zero, suc, ◌+◌, ◌-◌, ◌<◌, ◌≤◌, inl, inr, Bool, true, false, cond, refl, sym, ◌∙◌, ap, subst, arith, List, [], ◌∷◌, ◌++◌, length, take, map, set}
use Rattle.std.specs.Prelude.{Option, Some, None, Contains, IfSome, IsSome, option_map, filter, slice_get}
use Rattle.std.specs.List.{range_with_len}
use Rattle.std.proofs.lemmas.Bool.{ltb-true, ltb-false, cases_lt}
use Rattle.std.proofs.lemmas.List.{append-nil, append_assoc, length-append}
use Rattle.std.proofs.lemmas.List.Elements.{filter_passes}
use Rattle.season_days.specs.declared.declaration.Declaration.{Declaration}
use Rattle.season_days.specs.Capacity.{capacity_of, declared_resources}
use Rattle.cert_format.specs.declared.cert.Mark.{Mark}
use Rattle.cert_format.specs.declared.cert.Mark.TheVariants.{Optimal}
use Rattle.cert_format.specs.declared.cert.StageCert.{StageCert}
use Rattle.cert_format.specs.declared.cert.Certificate.{Certificate}
use Rattle.cert_format.specs.Choices.{choices_of}
use Rattle.series_model.specs.declared.unit.Unit.{Unit as SlotUnit}
use Rattle.series_model.specs.declared.times.Times.{Times}
use Rattle.series_model.specs.declared.state.UnitState.{UnitState}
use Rattle.series_model.specs.Options.{options_of}
use Rattle.series_model.specs.Displacement.{displacement_of}
use Rattle.series_model.specs.Marks.{ClaimsOptimal}
use Rattle.series_model.specs.Submissions.{SubmissionView}
use Rattle.series_model.specs.Allotments.{IsFeasibleAllotment, IsLeastAllotment, allotted_load}
use Rattle.series_model.specs.Stages.{first_states, stage_units, stage_limit, stage_times, times_named, after_stage, after_stages, states_after, IsFeasibleChoice, AreFeasibleFrom}
use Rattle.wasg_stages.specs.Valid.{MarkClaims, StageClaims, AreClaims, MarksHold}
use Rattle.report_lines.specs.Peaks.{unit_load}
use Rattle.season_report.specs.declared.barred.Barred.{Barred}
use Rattle.season_report.specs.Decisions.{states_before}
use Rattle.season_report.specs.Reasons.{AllottedStage, units_in, limit_in, others_load, is_passed, passed_by, barred_by, bar_of, is_cheaper, cheaper_than}
use Rattle.season_report.specs.Laws.{UsesItsBar, AllRows, NoneFits}
use Rattle.season_report.proofs.ApartLemmas.{load_apart, cost_apart, load_set, cost_set, alternatives_set}
use Rattle.season_report.proofs.RowLemmas.{KeepsDates, rows_keep}
use Rattle.season_report.proofs.BesideLemmas.{all_cheaper, reason_has, passed_below}

-- ---- what the others use is within the limits

pub others_within : (a : AllottedStage) (place : ℕ) (unit : SlotUnit) (given : Times) (r : ℕ) → IsFeasibleAllotment a.declaration (units_in a) (limit_in a) a.times →
    slice_get (units_in a) place ≡ Some unit → slice_get a.times place ≡ Some given → r < declared_resources (capacity_of a.declaration) → others_load a place r ≤ limit_in a r
others_within a place unit given r feasible at was lt =
    omega (arith, feasible.fits r lt, load_apart a.declaration (units_in a) a.times place unit given r at was)

-- ---- an alternative that costs less and passes nothing makes a better allotment

nothing_passes : (p : ℕ → Bool) (start n : ℕ) → filter p (range_with_len start n) ≡ [] → (r : ℕ) → start ≤ r → r < start + n → p r ≡ false
nothing_passes p start zero none r from to = absurd (omega arith)
nothing_passes p start (suc n) none r from to =
    (elim (p start) as (λ b. p start ≡ b → cond b (start ∷ filter p (range_with_len (start + 1) n)) (filter p (range_with_len (start + 1) n)) ≡ [] → p r ≡ false) [
      | true ↦ λ is no. cc
      | false ↦ λ is no.
          elim (cases_lt start r) as (λ w. p r ≡ false) [
            | inl above ↦ nothing_passes p (start + 1) n no r (omega arith) (omega arith)
            | inr below ↦ let same : start ≡ r = omega arith in subst (λ (k : ℕ). p k ≡ false) same is
          ]
    ]) refl none

some_reason : (d : Declaration) (unit : SlotUnit) (times : Times) (resources : List ℕ) → (resources ≡ [] → ⊥) → IsSome (barred_by d unit times resources)
some_reason d unit times [] some = absurd (some refl)
some_reason d unit times (r ∷ resources) some = refl

cheaper_barred : (a : AllottedStage) (place : ℕ) (unit : SlotUnit) (given times : Times) → IsLeastAllotment a.declaration (units_in a) (limit_in a) a.times →
    slice_get (units_in a) place ≡ Some unit → slice_get a.times place ≡ Some given → Contains (options_of a.declaration unit) times →
    is_cheaper a.declaration unit given times ≡ true → IsSome (bar_of a place unit times)
cheaper_barred a place unit given times least at was is less =
    let d = a.declaration in
    let n = declared_resources (capacity_of d) in
    some_reason d unit times (passed_by a place unit times) (λ none.
    let fits : (r : ℕ) → r < n → allotted_load d (units_in a) (set a.times place times) r ≤ limit_in a r = λ r lt.
    let passes : is_passed a place unit times r ≡ false = nothing_passes (is_passed a place unit times) 0 n none r (omega arith) (omega arith) in
    let within : others_load a place r + unit_load d unit times r ≤ limit_in a r = ltb-false _ _ passes in
    omega (arith, within, load_set d (units_in a) a.times place unit given times r at was) in
    let other : IsFeasibleAllotment d (units_in a) (limit_in a) (set a.times place times) = record {
      alternatives = alternatives_set d (units_in a) a.times place unit times at is least.feasible.alternatives;
      fits = fits;
    } in
    let cheaper : displacement_of d unit times < displacement_of d unit given = ltb-true _ _ less in
    let no : ⊥ = omega (
      arith,
      cheaper,
      least.least (set a.times place times) other,
      cost_apart d (units_in a) a.times place unit given at was,
      cost_set d (units_in a) a.times place unit given times at was,
    ) in
    no)

some_keeps : KeepsDates (λ (o : Option Barred). IsSome o)
some_keeps None other is = is
some_keeps (Some one) None is = refl
some_keeps (Some one) (Some other) is = refl

pub none_fits_in : (a : AllottedStage) → IsLeastAllotment a.declaration (units_in a) (limit_in a) a.times → NoneFits a
none_fits_in a least place unit given at was =
    rows_keep (λ (o : Option Barred). IsSome o) unit.request (cheaper_than a place unit given) some_keeps
    (all_cheaper (λ (o : Option Barred). IsSome o) a place unit (options_of a.declaration unit) (is_cheaper a.declaration unit given)
    (λ times is less. cheaper_barred a place unit given times least at was is less))

-- ---- a resource that bars an alternative is used by it

abbrev IsUsed : Option Barred → Type 0
IsUsed o = IfSome o (λ (barred : Barred). 1 ≤ barred.uses)

used_keeps : KeepsDates IsUsed
used_keeps None other is = is
used_keeps (Some one) None is = is
used_keeps (Some one) (Some other) is = is

record IsPassedAt (a : AllottedStage) (place : ℕ) (unit : SlotUnit) (times : Times) (r : ℕ) : Type 0 where
  there : r < declared_resources (capacity_of a.declaration)
  passed : is_passed a place unit times r ≡ true

used_of : (a : AllottedStage) (place : ℕ) (unit : SlotUnit) (given times : Times) (o : Option Barred) → IsFeasibleAllotment a.declaration (units_in a) (limit_in a) a.times →
    slice_get (units_in a) place ≡ Some unit → slice_get a.times place ≡ Some given →
    IfSome o (λ (b : Barred). IsPassedAt a place unit times b.resource × (b.uses ≡ unit_load a.declaration unit times b.resource)) → IsUsed o
used_of a place unit given times None feasible at was is = tt
used_of a place unit given times (Some b) feasible at was is =
    let above : limit_in a b.resource < others_load a place b.resource + unit_load a.declaration unit times b.resource = ltb-true _ _ is.0.passed in
    omega (arith, above, is.1, others_within a place unit given b.resource feasible at was is.0.there)

pub bars_used : (a : AllottedStage) → IsFeasibleAllotment a.declaration (units_in a) (limit_in a) a.times → AllRows UsesItsBar a
bars_used a feasible place unit given at was =
    rows_keep IsUsed unit.request (cheaper_than a place unit given) used_keeps
    (all_cheaper IsUsed a place unit (options_of a.declaration unit) (is_cheaper a.declaration unit given)
    (λ times is less. used_of a place unit given times (bar_of a place unit times) feasible at was
    (reason_has (IsPassedAt a place unit times) a place unit times
    (λ k e lt. record {
      there = passed_below a place unit times k e lt;
      passed = filter_passes (is_passed a place unit times) (range_with_len 0 (declared_resources (capacity_of a.declaration))) k e lt;
    }))))

-- ---- at a place of a certificate

pub claims_at : (d : Declaration) (units : List SlotUnit) (earlier : List (Option (List ℕ))) (certs : List StageCert) (place : ℕ) (block : StageCert) →
    AreClaims d units earlier certs → slice_get certs place ≡ Some block →
    StageClaims d (length earlier + place + 1) (states_after d units (earlier ++ take place (map (λ (b : StageCert). b.choice) certs))) block
claims_at d units earlier [] place block claims at = cc
claims_at d units earlier (c ∷ certs) zero block claims at =
    let same : c ≡ block = cc in
    let none : earlier ++ [] ≡ earlier = append-nil earlier in
    let stage : length earlier + 1 ≡ length earlier + 0 + 1 = omega arith in
    subst (λ (b : StageCert). StageClaims d (length earlier + 0 + 1) (states_after d units (earlier ++ [])) b) same
    (subst (λ (es : List (Option (List ℕ))). StageClaims d (length earlier + 0 + 1) (states_after d units es) c) (sym none)
    (subst (λ (k : ℕ). StageClaims d k (states_after d units earlier) c) stage claims.0))
claims_at d units earlier (c ∷ certs) (suc place) block claims at =
    let rest = claims_at d units (earlier ++ c.choice ∷ []) certs place block claims.1 at in
    let all : (earlier ++ c.choice ∷ []) ++ take place (map (λ (b : StageCert). b.choice) certs) ≡ earlier ++ c.choice ∷ take place (map (λ (b : StageCert). b.choice) certs) =
    append_assoc earlier (c.choice ∷ []) (take place (map (λ (b : StageCert). b.choice) certs)) in
    let stage : length (earlier ++ c.choice ∷ []) + place + 1 ≡ length earlier + suc place + 1 = omega (arith, length-append earlier (c.choice ∷ [])) in
    subst (λ (es : List (Option (List ℕ))). StageClaims d (length earlier + suc place + 1) (states_after d units es) block) all
    (subst (λ (k : ℕ). StageClaims d k (states_after d units ((earlier ++ c.choice ∷ []) ++ take place (map (λ (b : StageCert). b.choice) certs))) block) stage rest)

feasible_from : (d : Declaration) (stage : ℕ) (states : List UnitState) (choices : List (Option (List ℕ))) (place : ℕ) (x : List ℕ) →
    AreFeasibleFrom d stage states choices → slice_get choices place ≡ Some (Some x) → IsFeasibleChoice d (stage + place) (after_stages d stage states (take place choices)) x
feasible_from d stage states [] place x are at = cc
feasible_from d stage states (None ∷ choices) zero x are at = cc
feasible_from d stage states (Some y ∷ choices) zero x are at =
    let same : y ≡ x = cc in
    let here : stage ≡ stage + 0 = omega arith in
    subst (λ (z : List ℕ). IsFeasibleChoice d (stage + 0) states z) same (subst (λ (k : ℕ). IsFeasibleChoice d k states y) here are.0)
feasible_from d stage states (None ∷ choices) (suc place) x are at =
    let next : suc stage + place ≡ stage + suc place = omega arith in
    subst (λ (k : ℕ). IsFeasibleChoice d k (after_stages d (suc stage) states (take place choices)) x) next (feasible_from d (suc stage) states choices place x are at)
feasible_from d stage states (Some y ∷ choices) (suc place) x are at =
    let after = after_stage d stage states (Some y) in
    let next : suc stage + place ≡ stage + suc place = omega arith in
    subst (λ (k : ℕ). IsFeasibleChoice d k (after_stages d (suc stage) after (take place choices)) x) next (feasible_from d (suc stage) after choices place x are.1 at)

choice_got : (certs : List StageCert) (place : ℕ) (block : StageCert) → slice_get certs place ≡ Some block → slice_get (map (λ (b : StageCert). b.choice) certs) place ≡ Some block.choice
choice_got [] place block at = cc
choice_got (c ∷ certs) zero block at = let same : c ≡ block = cc in ap (λ (b : StageCert). Some b.choice) same
choice_got (c ∷ certs) (suc place) block at = choice_got certs place block at

-- the choice of a stage, if it has one, is feasible for the units as they are before it
pub feasible_at : (s : SubmissionView) (c : Certificate) (place : ℕ) (block : StageCert) (x : List ℕ) → AreFeasibleFrom s.declaration 1 (first_states s.units) (choices_of c) →
    slice_get c.stages place ≡ Some block → block.choice ≡ Some x → IsFeasibleChoice s.declaration (place + 1) (states_before s c (place + 1)) x
feasible_at s c place block x are at is =
    let d = s.declaration in
    let got : slice_get (choices_of c) place ≡ Some (Some x) = choice_got c.stages place block at ∙ ap (λ (o : Option (List ℕ)). Some o) is in
    let stage : 1 + place ≡ place + 1 = omega arith in
    let same : place ≡ place + 1 - 1 = omega arith in
    subst (λ (k : ℕ). IsFeasibleChoice d (place + 1) (states_after d s.units (take k (choices_of c))) x) same
    (subst (λ (k : ℕ). IsFeasibleChoice d k (states_after d s.units (take place (choices_of c))) x) stage (feasible_from d 1 (first_states s.units) (choices_of c) place x are got))

pub marks_at : (s : SubmissionView) (c : Certificate) (place : ℕ) (block : StageCert) → MarksHold s c → slice_get c.stages place ≡ Some block →
    StageClaims s.declaration (place + 1) (states_before s c (place + 1)) block
marks_at s c place block hold at =
    let d = s.declaration in
    let same : place ≡ place + 1 - 1 = omega arith in
    let stage : 0 + place + 1 ≡ place + 1 = omega arith in
    subst (λ (k : ℕ). StageClaims d (place + 1) (states_after d s.units (take k (choices_of c))) block) same
    (subst (λ (k : ℕ). StageClaims d k (states_after d s.units (take place (choices_of c))) block) stage (claims_at d s.units [] c.stages place block hold at))

least_of : (d : Declaration) (units : List SlotUnit) (limit : ℕ → ℕ) (cost : Option ℕ) (choice : Option (List ℕ)) (x : List ℕ) → choice ≡ Some x →
    ClaimsOptimal d units limit (option_map (times_named d units) choice) cost → IsLeastAllotment d units limit (times_named d units x)
least_of d units limit cost None x is claims = cc
least_of d units limit cost (Some y) x is claims =
    let same : y ≡ x = cc in
    subst (λ (z : List ℕ). IsLeastAllotment d units limit (times_named d units z)) same claims.0

pub optimal_least : (s : SubmissionView) (c : Certificate) (place : ℕ) (block : StageCert) (x : List ℕ) → MarksHold s c → slice_get c.stages place ≡ Some block → block.mark ≡ Optimal → block.choice ≡ Some x →
    IsLeastAllotment s.declaration (stage_units (place + 1) (states_before s c (place + 1))) (stage_limit s.declaration (place + 1) (states_before s c (place + 1)))
    (stage_times s.declaration (place + 1) (states_before s c (place + 1)) x)
optimal_least s c place block x hold at mark is =
    let d = s.declaration in
    let states = states_before s c (place + 1) in
    let units = stage_units (place + 1) states in
    let claims : MarkClaims d units (stage_limit d (place + 1) states) block Optimal = subst (λ (m : Mark). MarkClaims d units (stage_limit d (place + 1) states) block m) mark (marks_at s c place block hold at) in
    least_of d units (stage_limit d (place + 1) states) block.cost block.choice x is claims

-- if there is one
pub for_some : {A : Type 0} (P : A → Type 0) (o : Option A) → ((x : A) → o ≡ Some x → P x) → IfSome o P
for_some P None each = tt
for_some P (Some x) each = each x refl
