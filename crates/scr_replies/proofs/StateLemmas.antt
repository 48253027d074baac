-- Units after a stage: what they were given has a spelling, and there are as many.
use Rattle.std.proofs.Common.{◌≡◌, ℕ, zero, suc, ◌+◌, ◌<◌, Bool, true, false, refl, sym, ◌∙◌, ap, subst, arith, List, [], ◌∷◌, length, get_or, drop, map}
use Rattle.std.specs.Prelude.{Option, Some, None, if◌then◌else◌, All}
use Rattle.std.proofs.lemmas.List.{at_drop_more, get_or-map, length-map}
use Rattle.std.proofs.lemmas.List.Elements.{All-cons, All-head, All-tail}
use Rattle.season_days.specs.Term.{Term}
use Rattle.season_days.specs.declared.declaration.Declaration.{Declaration}
use Rattle.scr_reader.specs.Printed.{LineFits}
use Rattle.cert_format.specs.declared.cert.StageCert.{StageCert}
use Rattle.series_model.specs.declared.unit.Unit.{Unit as SlotUnit}
use Rattle.series_model.specs.declared.times.Times.{Times}
use Rattle.series_model.specs.declared.times.Times.TheVariants.{Refused, At}
use Rattle.series_model.specs.declared.state.UnitState.{UnitState}
use Rattle.series_model.specs.Options.{options_of, TimesFit}
use Rattle.series_model.specs.TimedLines.{line_at, IsNear}
use Rattle.series_model.specs.Units.{UnitFits}
use Rattle.series_model.specs.Stages.{first_state, first_states, is_due_state, stage_units, after_allotment, times_named, stage_times, after_stage, after_stages}
use Rattle.scr_replies.specs.SeasonReplies.{IsAnswerable}

-- ---- one alternative

-- the request at these times has a spelling
abbrev pub CanOffer : Term → SlotUnit → Times → Type 0
CanOffer season unit times = LineFits season (line_at unit.request times) × IsNear times

near_of : (price : Option ℕ) (times : Times) → TimesFit price times → IsNear times
near_of price Refused fits = tt
near_of price (At arrival departure) fits = fits.1

-- what holds of each element and of the default holds of the element of a number
at_or : {X : Type 0} (P : X → Type 0) (xs : List X) (n : ℕ) (d : X) → All P xs → P d → P (get_or xs n d)
at_or P [] n d all own = own
at_or P (x ∷ xs) zero d all own = All-head P x xs all
at_or P (x ∷ xs) (suc n) d all own = at_or P xs n d (All-tail P x xs all) own

-- the laws of alternatives
abbrev pub AreSpelled : Type 0
AreSpelled = (d : Declaration) (unit : SlotUnit) → UnitFits d.season unit → All (λ times. LineFits d.season (line_at unit.request times)) (options_of d unit)

abbrev pub AreNear : Type 0
AreNear = (d : Declaration) (unit : SlotUnit) → UnitFits d.season unit → All (TimesFit d.refuse) (options_of d unit)

can_offer : (d : Declaration) (unit : SlotUnit) (n : ℕ) → AreSpelled → AreNear → UnitFits d.season unit → CanOffer d.season unit (get_or (options_of d unit) n Refused)
can_offer d unit n spelled near fits =
    at_or (CanOffer d.season unit) (options_of d unit) n Refused
    (λ k t lt. (spelled d unit fits k t lt, near_of d.refuse (get_or (options_of d unit) k t) (near d unit fits k t lt)))
    (fits.request, tt)

given_answerable : (d : Declaration) (state : UnitState) (n : ℕ) → AreSpelled → AreNear → IsAnswerable d.season state →
    IsAnswerable d.season (record state { given = Some (get_or (options_of d state.unit) n Refused) })
given_answerable d state n spelled near is = record {
  unit = is.unit;
  given = can_offer d state.unit n spelled near is.unit;
}

-- ---- one stage

abbrev units_by : ℕ → UnitState → List UnitState → Bool → List SlotUnit
units_by stage state rest due = if due then state.unit ∷ stage_units stage rest else stage_units stage rest

abbrev with_by : ℕ → UnitState → List UnitState → Bool → List Times → List UnitState
with_by stage state rest due [] = state ∷ rest
with_by stage state rest due (next ∷ times) = if due then record state { given = Some next } ∷ after_allotment stage rest times else state ∷ after_allotment stage rest (next ∷ times)

after_allotment-by : (stage : ℕ) (state : UnitState) (rest : List UnitState) (times : List Times) → after_allotment stage (state ∷ rest) times ≡ with_by stage state rest (is_due_state stage state) times
after_allotment-by stage state rest [] = refl
after_allotment-by stage state rest (next ∷ times) = refl

after_allotment-none : (stage : ℕ) (states : List UnitState) → after_allotment stage states [] ≡ states
after_allotment-none stage [] = refl
after_allotment-none stage (state ∷ states) = refl

with_by-skips : (stage : ℕ) (state : UnitState) (rest : List UnitState) (times : List Times) → with_by stage state rest false times ≡ state ∷ after_allotment stage rest times
with_by-skips stage state rest [] = ap (λ (s : List UnitState). state ∷ s) (sym (after_allotment-none stage rest))
with_by-skips stage state rest (next ∷ times) = refl

answerable_due : (d : Declaration) (stage : ℕ) (state : UnitState) (rest : List UnitState) (numbers : List ℕ) → AreSpelled → AreNear → IsAnswerable d.season state → All (IsAnswerable d.season) rest →
    ((ns : List ℕ) → All (IsAnswerable d.season) (after_allotment stage rest (stage_times d stage rest ns))) →
    All (IsAnswerable d.season) (with_by stage state rest true (times_named d (state.unit ∷ stage_units stage rest) numbers))
answerable_due d stage state rest [] spelled near head others after = All-cons (IsAnswerable d.season) state rest head others
answerable_due d stage state rest (n ∷ ns) spelled near head others after =
    All-cons (IsAnswerable d.season) (record state { given = Some (get_or (options_of d state.unit) n Refused) }) (after_allotment stage rest (stage_times d stage rest ns))
    (given_answerable d state n spelled near head) (after ns)

answerable_skips : (d : Declaration) (stage : ℕ) (state : UnitState) (rest : List UnitState) (numbers : List ℕ) → IsAnswerable d.season state →
    All (IsAnswerable d.season) (after_allotment stage rest (stage_times d stage rest numbers)) →
    All (IsAnswerable d.season) (with_by stage state rest false (stage_times d stage rest numbers))
answerable_skips d stage state rest numbers head after =
    subst (All (IsAnswerable d.season)) (sym (with_by-skips stage state rest (stage_times d stage rest numbers)))
    (All-cons (IsAnswerable d.season) state (after_allotment stage rest (stage_times d stage rest numbers)) head after)

answerable_after : (d : Declaration) (stage : ℕ) (states : List UnitState) (numbers : List ℕ) → AreSpelled → AreNear → All (IsAnswerable d.season) states →
    All (IsAnswerable d.season) (after_allotment stage states (stage_times d stage states numbers))
answerable_after d stage [] numbers spelled near all = all
answerable_after d stage (state ∷ rest) numbers spelled near all =
    let head = All-head (IsAnswerable d.season) state rest all in
    let others = All-tail (IsAnswerable d.season) state rest all in
    subst (All (IsAnswerable d.season)) (sym (after_allotment-by stage state rest (stage_times d stage (state ∷ rest) numbers)))
    (elim (is_due_state stage state) as (λ b. All (IsAnswerable d.season) (with_by stage state rest b (times_named d (units_by stage state rest b) numbers))) [
      | true ↦ answerable_due d stage state rest numbers spelled near head others (λ ns. answerable_after d stage rest ns spelled near others)
      | false ↦ answerable_skips d stage state rest numbers head (answerable_after d stage rest numbers spelled near others)
    ])

pub stage_answerable : (d : Declaration) (stage : ℕ) (states : List UnitState) (choice : Option (List ℕ)) → AreSpelled → AreNear → All (IsAnswerable d.season) states →
    All (IsAnswerable d.season) (after_stage d stage states choice)
stage_answerable d stage states None spelled near all = all
stage_answerable d stage states (Some numbers) spelled near all = answerable_after d stage states numbers spelled near all

-- ---- as many units

allotment_length : (stage : ℕ) (states : List UnitState) (times : List Times) → length (after_allotment stage states times) ≡ length states
allotment_length stage [] times = refl
allotment_length stage (state ∷ states) [] = refl
allotment_length stage (state ∷ states) (next ∷ times) =
    elim (is_due_state stage state) as (λ b. length (with_by stage state states b (next ∷ times)) ≡ suc (length states)) [
      | true ↦ ap suc (allotment_length stage states times)
      | false ↦ ap suc (allotment_length stage states (next ∷ times))
    ]

pub stage_length : (d : Declaration) (stage : ℕ) (states : List UnitState) (choice : Option (List ℕ)) → length (after_stage d stage states choice) ≡ length states
stage_length d stage states None = refl
stage_length d stage states (Some numbers) = allotment_length stage states (stage_times d stage states numbers)

-- ---- before the first stage

abbrev FitsUnit : Term → UnitState → Type 0
FitsUnit season state = UnitFits season state.unit

pub first_answerable : (season : Term) (units : List SlotUnit) → All (FitsUnit season) (first_states units) → All (IsAnswerable season) (first_states units)
first_answerable season [] fit k e lt = absurd (omega arith)
first_answerable season (unit ∷ units) fit zero e lt = record { unit = fit 0 e lt; given = tt }
first_answerable season (unit ∷ units) fit (suc k) e lt = first_answerable season units (All-tail (FitsUnit season) (first_state unit) (first_states units) fit) k e (omega arith)

pub first_all_answerable : (season : Term) (units : List SlotUnit) (states : List UnitState) → states ≡ first_states units → All (FitsUnit season) states → All (IsAnswerable season) states
first_all_answerable season units states is fit =
    subst (All (IsAnswerable season)) (sym is) (first_answerable season units (subst (All (FitsUnit season)) is fit))

pub first_length : (units : List SlotUnit) → length (first_states units) ≡ length units
first_length [] = refl
first_length (unit ∷ units) = ap suc (first_length units)

-- ---- one stage more

abbrev choice_in : StageCert → Option (List ℕ)
choice_in cert = cert.choice

pub stages_on : (d : Declaration) (stage : ℕ) (states after whole : List UnitState) (certs : List StageCert) (i : ℕ) (cert : StageCert) → i < length certs → cert ≡ get_or certs i cert →
    after ≡ after_stage d stage states cert.choice → after_stages d stage states (drop i (map choice_in certs)) ≡ whole → after_stages d (stage + 1) after (drop (i + 1) (map choice_in certs)) ≡ whole
stages_on d stage states after whole certs i cert lt is made so_far =
    let choices : List (Option (List ℕ)) = map choice_in certs in
    let long : i < length choices = omega (arith, lt, length-map certs choice_in) in
    let own : get_or choices i None ≡ cert.choice = get_or-map choice_in certs i cert None lt ∙ ap choice_in (sym is) in
    let next : suc stage ≡ stage + 1 = omega arith in
    let step : after_stages d (suc stage) (after_stage d stage states (get_or choices i None)) (drop (i + 1) choices) ≡ whole = sym (at_drop_more (after_stages d stage states) choices i None long) ∙ so_far in
    ap (λ (s : List UnitState). after_stages d (stage + 1) s (drop (i + 1) choices)) (made ∙ ap (λ (o : Option (List ℕ)). after_stage d stage states o) (sym own))
    ∙ ap (λ (k : ℕ). after_stages d k (after_stage d stage states (get_or choices i None)) (drop (i + 1) choices)) (sym next) ∙ step
