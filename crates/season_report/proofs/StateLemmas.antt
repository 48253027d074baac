-- Units after stages: what they were given can be printed and costs little, and there are as many.
use Rattle.std.proofs.Common.{◌≡◌, ℕ, zero, suc, ◌+◌, ◌-◌, ◌<◌, ◌≤◌, Bool, true, false, refl, sym, ◌∙◌, ap, subst, arith, List, [], ◌∷◌, ◌++◌, length, get_or, take, drop}
use Rattle.std.specs.Prelude.{Option, Some, None, is_some, if◌then◌else◌, All, ◌^◌}
use Rattle.std.specs.Option.{ForSome}
use Rattle.std.proofs.lemmas.List.{take_more, get_or-map, length-map, length-take-le, drop_more, drop_all, append-nil, append_assoc}
use Rattle.std.proofs.lemmas.List.Elements.{All-nil, All-cons, All-head, All-tail}
use Rattle.season_days.specs.declared.declaration.Declaration.{Declaration}
use Rattle.season_days.specs.declared.declaration.TheConstants.{HIGHEST_REFUSAL_PRICE}
use Rattle.scr_reader.specs.Printed.{LineFits}
use Rattle.cert_format.specs.declared.cert.StageCert.{StageCert}
use Rattle.cert_format.specs.declared.cert.Certificate.{Certificate}
use Rattle.cert_format.specs.Choices.{choices_of}
use Rattle.series_model.specs.declared.unit.Unit.{Unit as SlotUnit}
use Rattle.series_model.specs.declared.times.Times.{Times}
use Rattle.series_model.specs.declared.times.Times.TheVariants.{Refused, At}
use Rattle.series_model.specs.declared.state.UnitState.{UnitState}
use Rattle.series_model.specs.Options.{options_of, TimesFit}
use Rattle.series_model.specs.Displacement.{displacement_of}
use Rattle.series_model.specs.TimedLines.{line_at, IsNear}
use Rattle.series_model.specs.Units.{UnitFits}
use Rattle.series_model.specs.Submissions.{SubmissionView}
use Rattle.series_model.specs.Stages.{first_state, first_states, is_due_state, stage_units, after_allotment, times_named, stage_times, after_stage, states_after}
use Rattle.season_report.specs.declared.decided.Decided.{Decided}
use Rattle.season_report.specs.Decisions.{choice_at, stage_of, states_before, decided_of, decided_units}
use Rattle.season_report.specs.Tallies.{slots_cost_of}
use Rattle.season_report.specs.Private.{IsTold, IsAnswered}

-- ---- one alternative

-- the request at these times has a spelling, and they cost little
record CanGive (d : Declaration) (unit : SlotUnit) (times : Times) : Type 0 where
  spelled : LineFits d.season (line_at unit.request times)
  near : IsNear times
  small : slots_cost_of d unit (Some times) < 2 ^ 24

near_of : (price : Option ℕ) (times : Times) → TimesFit price times → IsNear times
near_of price Refused fits = tt
near_of price (At arrival departure) fits = fits.1

small_of : (d : Declaration) (unit : SlotUnit) (times : Times) → displacement_of d unit times < 2 ^ 24 → slots_cost_of d unit (Some times) < 2 ^ 24
small_of d unit Refused small = omega arith
small_of d unit (At arrival departure) small = small

-- what holds of each element and of the default holds of the element of a number
at_or : {X : Type 0} (P : X → Type 0) (xs : List X) (n : ℕ) (d : X) → All P xs → P d → P (get_or xs n d)
at_or P [] n d all own = own
at_or P (x ∷ xs) zero d all own = All-head P x xs all
at_or P (x ∷ xs) (suc n) d all own = at_or P xs n d (All-tail P x xs all) own

-- the laws of alternatives
pub record AreOptions : Type 0 where
  pub spelled : (d : Declaration) (unit : SlotUnit) → UnitFits d.season unit → All (λ times. LineFits d.season (line_at unit.request times)) (options_of d unit)
  pub near : (d : Declaration) (unit : SlotUnit) → UnitFits d.season unit → All (TimesFit d.refuse) (options_of d unit)
  pub small : (d : Declaration) (unit : SlotUnit) → UnitFits d.season unit → ForSome d.refuse (λ price. price ≤ HIGHEST_REFUSAL_PRICE) →
      All (λ times. displacement_of d unit times < 2 ^ 24) (options_of d unit)

abbrev HasPrice : Declaration → Type 0
HasPrice d = ForSome d.refuse (λ price. price ≤ HIGHEST_REFUSAL_PRICE)

can_give : (d : Declaration) (unit : SlotUnit) (n : ℕ) → AreOptions → HasPrice d → UnitFits d.season unit → CanGive d unit (get_or (options_of d unit) n Refused)
can_give d unit n laws price fits =
    at_or (CanGive d unit) (options_of d unit) n Refused
    (λ k t lt. record {
      spelled = laws.spelled d unit fits k t lt;
      near = near_of d.refuse (get_or (options_of d unit) k t) (laws.near d unit fits k t lt);
      small = small_of d unit (get_or (options_of d unit) k t) (laws.small d unit fits price k t lt);
    })
    (record { spelled = fits.request; near = tt; small = omega arith })

given_answered : (d : Declaration) (state : UnitState) (n : ℕ) → AreOptions → HasPrice d → IsAnswered d state →
    IsAnswered d (record state { given = Some (get_or (options_of d state.unit) n Refused) })
given_answered d state n laws price is =
    let can = can_give d state.unit n laws price is.unit in
    record { unit = is.unit; given = (can.spelled, can.near); small = can.small }

-- ---- one stage

abbrev units_by : ℕ → UnitState → List UnitState → Bool → List SlotUnit
units_by stage state rest due = if due then state.unit ∷ stage_units stage rest else stage_units stage rest

abbrev with_by : ℕ → UnitState → List UnitState → Bool → List Times → List UnitState
with_by stage state rest due [] = state ∷ rest
with_by stage state rest due (next ∷ times) = if due then record state { given = Some next } ∷ after_allotment stage rest times else state ∷ after_allotment stage rest (next ∷ times)

after_allotment-by : (stage : ℕ) (state : UnitState) (rest : List UnitState) (times : List Times) → after_allotment stage (state ∷ rest) times ≡ with_by stage state rest (is_due_state stage state) times
after_allotment-by stage state rest [] = refl
after_allotment-by stage state rest (next ∷ times) = refl

after_allotment-none : (stage : ℕ) (states : List UnitState) → after_allotment stage states [] ≡ states
after_allotment-none stage [] = refl
after_allotment-none stage (state ∷ states) = refl

with_by-skips : (stage : ℕ) (state : UnitState) (rest : List UnitState) (times : List Times) → with_by stage state rest false times ≡ state ∷ after_allotment stage rest times
with_by-skips stage state rest [] = ap (λ (s : List UnitState). state ∷ s) (sym (after_allotment-none stage rest))
with_by-skips stage state rest (next ∷ times) = refl

answered_due : (d : Declaration) (stage : ℕ) (state : UnitState) (rest : List UnitState) (numbers : List ℕ) → AreOptions → HasPrice d → IsAnswered d state → All (IsAnswered d) rest →
    ((ns : List ℕ) → All (IsAnswered d) (after_allotment stage rest (stage_times d stage rest ns))) →
    All (IsAnswered d) (with_by stage state rest true (times_named d (state.unit ∷ stage_units stage rest) numbers))
answered_due d stage state rest [] laws price head others after = All-cons (IsAnswered d) state rest head others
answered_due d stage state rest (n ∷ ns) laws price head others after =
    All-cons (IsAnswered d) (record state { given = Some (get_or (options_of d state.unit) n Refused) }) (after_allotment stage rest (stage_times d stage rest ns))
    (given_answered d state n laws price head) (after ns)

answered_skips : (d : Declaration) (stage : ℕ) (state : UnitState) (rest : List UnitState) (numbers : List ℕ) → IsAnswered d state →
    All (IsAnswered d) (after_allotment stage rest (stage_times d stage rest numbers)) →
    All (IsAnswered d) (with_by stage state rest false (stage_times d stage rest numbers))
answered_skips d stage state rest numbers head after =
    subst (All (IsAnswered d)) (sym (with_by-skips stage state rest (stage_times d stage rest numbers)))
    (All-cons (IsAnswered d) state (after_allotment stage rest (stage_times d stage rest numbers)) head after)

answered_after : (d : Declaration) (stage : ℕ) (states : List UnitState) (numbers : List ℕ) → AreOptions → HasPrice d → All (IsAnswered d) states →
    All (IsAnswered d) (after_allotment stage states (stage_times d stage states numbers))
answered_after d stage [] numbers laws price all = all
answered_after d stage (state ∷ rest) numbers laws price all =
    let head = All-head (IsAnswered d) state rest all in
    let others = All-tail (IsAnswered d) state rest all in
    subst (All (IsAnswered d)) (sym (after_allotment-by stage state rest (stage_times d stage (state ∷ rest) numbers)))
    (elim (is_due_state stage state) as (λ b. All (IsAnswered d) (with_by stage state rest b (times_named d (units_by stage state rest b) numbers))) [
      | true ↦ answered_due d stage state rest numbers laws price head others (λ ns. answered_after d stage rest ns laws price others)
      | false ↦ answered_skips d stage state rest numbers head (answered_after d stage rest numbers laws price others)
    ])

pub stage_answered : (d : Declaration) (stage : ℕ) (states : List UnitState) (choice : Option (List ℕ)) → AreOptions → HasPrice d → All (IsAnswered d) states →
    All (IsAnswered d) (after_stage d stage states choice)
stage_answered d stage states None laws price all = all
stage_answered d stage states (Some numbers) laws price all = answered_after d stage states numbers laws price all

-- ---- as many units

allotment_length : (stage : ℕ) (states : List UnitState) (times : List Times) → length (after_allotment stage states times) ≡ length states
allotment_length stage [] times = refl
allotment_length stage (state ∷ states) [] = refl
allotment_length stage (state ∷ states) (next ∷ times) =
    elim (is_due_state stage state) as (λ b. length (with_by stage state states b (next ∷ times)) ≡ suc (length states)) [
      | true ↦ ap suc (allotment_length stage states times)
      | false ↦ ap suc (allotment_length stage states (next ∷ times))
    ]

pub stage_length : (d : Declaration) (stage : ℕ) (states : List UnitState) (choice : Option (List ℕ)) → length (after_stage d stage states choice) ≡ length states
stage_length d stage states None = refl
stage_length d stage states (Some numbers) = allotment_length stage states (stage_times d stage states numbers)

-- ---- before the first stage

abbrev FitsUnit : Declaration → UnitState → Type 0
FitsUnit d state = UnitFits d.season state.unit

first_answered : (d : Declaration) (units : List SlotUnit) → All (FitsUnit d) (first_states units) → All (IsAnswered d) (first_states units)
first_answered d [] fit = All-nil (IsAnswered d)
first_answered d (unit ∷ units) fit =
    All-cons (IsAnswered d) (first_state unit) (first_states units)
    (record { unit = All-head (FitsUnit d) (first_state unit) (first_states units) fit; given = tt; small = omega arith })
    (first_answered d units (All-tail (FitsUnit d) (first_state unit) (first_states units) fit))

pub first_all_answered : (d : Declaration) (units : List SlotUnit) (states : List UnitState) → states ≡ first_states units → All (FitsUnit d) states → All (IsAnswered d) states
first_all_answered d units states is fit =
    subst (All (IsAnswered d)) (sym is) (first_answered d units (subst (All (FitsUnit d)) is fit))

pub first_length : (units : List SlotUnit) → length (first_states units) ≡ length units
first_length [] = refl
first_length (unit ∷ units) = ap suc (first_length units)

-- ---- one stage more

-- the law of the model
abbrev pub OneMoreStage : Type 0
OneMoreStage = (d : Declaration) (units : List SlotUnit) (choices : List (Option (List ℕ))) (choice : Option (List ℕ)) →
    states_after d units (choices ++ choice ∷ []) ≡ after_stage d (length choices + 1) (states_after d units choices) choice

pub choice_of_block : (c : Certificate) (i : ℕ) (block : StageCert) → i < length c.stages → block ≡ get_or c.stages i block → get_or (choices_of c) i None ≡ block.choice
choice_of_block c i block lt is =
    get_or-map (λ (b : StageCert). b.choice) c.stages i block None lt ∙ ap (λ (b : StageCert). b.choice) (sym is)

pub before_next : OneMoreStage → (s : SubmissionView) (c : Certificate) (at : ℕ) (choice : Option (List ℕ)) → 1 ≤ at → at ≤ length c.stages → get_or (choices_of c) (at - 1) None ≡ choice →
    states_before s c (at + 1) ≡ after_stage s.declaration at (states_before s c at) choice
before_next more s c at choice some few is =
    let choices : List (Option (List ℕ)) = choices_of c in
    let i : ℕ = at - 1 in
    let long : i < length choices = omega (arith, few, length-map c.stages (λ (b : StageCert). b.choice)) in
    let next : i + 1 ≡ at = omega arith in
    let second : at + 1 - 1 ≡ i + 1 = omega arith in
    let short : length (take i choices) + 1 ≡ at = omega (arith, length-take-le i choices (omega arith)) in
    ap (λ (n : ℕ). states_after s.declaration s.units (take n choices)) second
    ∙ ap (states_after s.declaration s.units) (take_more choices i None long ∙ ap (λ (o : Option (List ℕ)). take i choices ++ o ∷ []) is)
    ∙ more s.declaration s.units (take i choices) choice
    ∙ ap (λ (n : ℕ). after_stage s.declaration n (states_after s.declaration s.units (take i choices)) choice) short

-- ---- what was decided

decided_told : (d : Declaration) (c : Certificate) (before after : UnitState) → IsAnswered d after → IsTold d (decided_of c before after)
decided_told d c before after is =
    elim (is_some (choice_at c (stage_of before))) as (λ b. IsTold d (record { unit = after.unit; stage = stage_of before; given = if b then after.given else None })) [
      | true ↦ record { unit = is.unit; given = is.given; small = is.small }
      | false ↦ record { unit = is.unit; given = tt; small = omega arith }
    ]

pub all_told : (d : Declaration) (c : Certificate) (befores afters : List UnitState) → All (IsAnswered d) afters → All (IsTold d) (decided_units c befores afters)
all_told d c [] afters all = All-nil (IsTold d)
all_told d c (before ∷ befores) [] all = All-nil (IsTold d)
all_told d c (before ∷ befores) (after ∷ afters) all =
    All-cons (IsTold d) (decided_of c before after) (decided_units c befores afters)
    (decided_told d c before after (All-head (IsAnswered d) after afters all))
    (all_told d c befores afters (All-tail (IsAnswered d) after afters all))

-- one unit more
pub decided_next : (c : Certificate) (befores afters : List UnitState) (i : ℕ) (units new : List Decided) (u : Decided) (d e : UnitState) → i < length befores → length befores ≡ length afters →
    u ≡ decided_of c (get_or befores i d) (get_or afters i e) → new ≡ units ++ u ∷ [] →
    new ++ decided_units c (drop (i + 1) befores) (drop (i + 1) afters) ≡ units ++ decided_units c (drop i befores) (drop i afters)
decided_next c befores afters i units new u d e lt same is made =
    let later = decided_units c (drop (i + 1) befores) (drop (i + 1) afters) in
    let one = decided_of c (get_or befores i d) (get_or afters i e) in
    let all : decided_units c (drop i befores) (drop i afters) ≡ one ∷ later =
    ap (λ (bs : List UnitState). decided_units c bs (drop i afters)) (drop_more befores i d lt)
    ∙ ap (λ (as' : List UnitState). decided_units c (get_or befores i d ∷ drop (i + 1) befores) as') (drop_more afters i e (omega (arith, lt, same))) in
    ap (λ (us : List Decided). us ++ later) (made ∙ ap (λ (w : Decided). units ++ w ∷ []) is)
    ∙ append_assoc units (one ∷ []) later
    ∙ ap (λ (us : List Decided). units ++ us) (sym all)

pub decided_end : (c : Certificate) (befores afters : List UnitState) (i : ℕ) (units whole : List Decided) → length befores ≤ i → units ++ decided_units c (drop i befores) (drop i afters) ≡ whole → units ≡ whole
decided_end c befores afters i units whole past is =
    sym (append-nil units)
    ∙ ap (λ (us : List Decided). units ++ us) (sym (ap (λ (bs : List UnitState). decided_units c bs (drop i afters)) (drop_all i befores past)))
    ∙ is

pub decided_length : (c : Certificate) (befores afters : List UnitState) → length befores ≡ length afters → length (decided_units c befores afters) ≡ length afters
decided_length c [] [] same = refl
decided_length c [] (after ∷ afters) same = absurd (omega arith)
decided_length c (before ∷ befores) [] same = absurd (omega arith)
decided_length c (before ∷ befores) (after ∷ afters) same = ap suc (decided_length c befores afters (omega arith))
