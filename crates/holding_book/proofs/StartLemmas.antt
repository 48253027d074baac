-- The start book: what was given to each unit is one of its alternatives, the lines of its holdings have
-- a spelling, and they have the movements that were given.
use Rattle.std.proofs.Common.{◌≡◌, ℕ, zero, suc, ◌+◌, ◌<◌, ◌≤◌, ◌^◌, ◌==◌, Bool, true, false, cond, refl, sym, ◌∙◌, ap, subst, arith, List, [], ◌∷◌, ◌++◌, length, get_or, drop, map, Option, Some, None}
use Rattle.std.specs.Prelude.{All, Contains, if◌then◌else◌}
use Rattle.std.specs.Option.{ForSome}
use Rattle.std.specs.List.{filter_map, cons_option}
use Rattle.std.proofs.lemmas.Bool.{eqb-true}
use Rattle.std.proofs.lemmas.List.{at_drop_more, get_or-map, length-map}
use Rattle.std.proofs.lemmas.List.Elements.{All-nil, All-cons, All-head, All-tail, All-weaker, All-contains, All-contains_itself}
use Rattle.season_days.specs.Term.{Term}
use Rattle.season_days.specs.declared.declaration.Declaration.{Declaration}
use Rattle.scr_reader.specs.Printed.{LineFits}
use Rattle.scr_reader.specs.declared.line.Line.{Line}
use Rattle.cert_format.specs.declared.cert.StageCert.{StageCert}
use Rattle.series_model.specs.declared.group.Group.TheVariants.{F, R, L, B, N}
use Rattle.series_model.specs.declared.group.Group.{Group}
use Rattle.series_model.specs.declared.unit.Unit.{Unit as SlotUnit}
use Rattle.series_model.specs.declared.times.Times.{Times}
use Rattle.series_model.specs.declared.times.Times.TheVariants.{Refused, At}
use Rattle.series_model.specs.declared.state.UnitState.{UnitState}
use Rattle.series_model.specs.Movements.{movements_at, movements_of}
use Rattle.series_model.specs.Options.{line_times, are_same, options_of, TimesFit}
use Rattle.series_model.specs.TimedLines.{line_at, line_movements, IsNear}
use Rattle.series_model.specs.Units.{UnitFits, HistoricFits}
use Rattle.series_model.specs.Stages.{first_state, first_states, is_due_state, stage_units, after_allotment, times_named, stage_times, after_stage, after_stages, given_movements, movements_once_given, movements_given}
use Rattle.holding_book.specs.declared.holding.Holding.{Holding}
use Rattle.holding_book.specs.Books.{confirmed, offered, held_movements}
use Rattle.holding_book.specs.Private.Given.{IsGivenTimes, IsGiven}
use Rattle.holding_book.specs.Starts.{moved_holding, start_holding, holding_of}
use Rattle.std.proofs.Common.{take, add-one}
use Rattle.std.proofs.Math.Seq.{take-suc}
use Rattle.std.proofs.lemmas.List.Elements.{filter_map-append}
use Rattle.season_days.specs.Capacity.{capacity_of}
use Rattle.capacity_windows.specs.Windows.{WindowsFit}
use Rattle.cert_format.specs.declared.cert.Certificate.{Certificate}
use Rattle.cert_format.specs.Choices.{choices_of}
use Rattle.series_model.specs.Stages.{states_after, GivenFits}
use Rattle.series_model.specs.Submissions.{SubmissionView}
use Rattle.holding_book.specs.Starts.{start_book}
use Rattle.holding_book.proofs.FlightLemmas.{both_true}

-- ---- one alternative

-- what holds of each element and of the default holds of the element of a number
at_or : {X : Type 0} (P : X → Type 0) (xs : List X) (n : ℕ) (d : X) → All P xs → P d → P (get_or xs n d)
at_or P [] n d all own = own
at_or P (x ∷ xs) zero d all own = All-head P x xs all
at_or P (x ∷ xs) (suc n) d all own = at_or P xs n d (All-tail P x xs all) own

one_of : (d : Declaration) (unit : SlotUnit) (times : Times) → Contains (options_of d unit) times → IsGivenTimes d unit (Some times)
one_of d unit Refused has = tt
one_of d unit (At arrival departure) has = has

given_is : (d : Declaration) (state : UnitState) (n : ℕ) → IsGiven d state → IsGiven d (record state { given = Some (get_or (options_of d state.unit) n Refused) })
given_is d state n is = record {
  unit = is.unit;
  given = at_or (λ times. IsGivenTimes d state.unit (Some times)) (options_of d state.unit) n Refused
      (All-weaker (Contains (options_of d state.unit)) (λ times. IsGivenTimes d state.unit (Some times)) (one_of d state.unit) (options_of d state.unit) (All-contains_itself (options_of d state.unit)))
      tt;
}

-- ---- one stage

abbrev units_by : ℕ → UnitState → List UnitState → Bool → List SlotUnit
units_by stage state rest due = if due then state.unit ∷ stage_units stage rest else stage_units stage rest

abbrev with_by : ℕ → UnitState → List UnitState → Bool → List Times → List UnitState
with_by stage state rest due [] = state ∷ rest
with_by stage state rest due (next ∷ times) = if due then record state { given = Some next } ∷ after_allotment stage rest times else state ∷ after_allotment stage rest (next ∷ times)

after_allotment-by : (stage : ℕ) (state : UnitState) (rest : List UnitState) (times : List Times) → after_allotment stage (state ∷ rest) times ≡ with_by stage state rest (is_due_state stage state) times
after_allotment-by stage state rest [] = refl
after_allotment-by stage state rest (next ∷ times) = refl

after_allotment-none : (stage : ℕ) (states : List UnitState) → after_allotment stage states [] ≡ states
after_allotment-none stage [] = refl
after_allotment-none stage (state ∷ states) = refl

with_by-skips : (stage : ℕ) (state : UnitState) (rest : List UnitState) (times : List Times) → with_by stage state rest false times ≡ state ∷ after_allotment stage rest times
with_by-skips stage state rest [] = ap (λ (s : List UnitState). state ∷ s) (sym (after_allotment-none stage rest))
with_by-skips stage state rest (next ∷ times) = refl

given_due : (d : Declaration) (stage : ℕ) (state : UnitState) (rest : List UnitState) (numbers : List ℕ) → IsGiven d state → All (IsGiven d) rest →
    ((ns : List ℕ) → All (IsGiven d) (after_allotment stage rest (stage_times d stage rest ns))) →
    All (IsGiven d) (with_by stage state rest true (times_named d (state.unit ∷ stage_units stage rest) numbers))
given_due d stage state rest [] head others after = All-cons (IsGiven d) state rest head others
given_due d stage state rest (n ∷ ns) head others after =
    All-cons (IsGiven d) (record state { given = Some (get_or (options_of d state.unit) n Refused) }) (after_allotment stage rest (stage_times d stage rest ns)) (given_is d state n head) (after ns)

given_skips : (d : Declaration) (stage : ℕ) (state : UnitState) (rest : List UnitState) (numbers : List ℕ) → IsGiven d state →
    All (IsGiven d) (after_allotment stage rest (stage_times d stage rest numbers)) →
    All (IsGiven d) (with_by stage state rest false (stage_times d stage rest numbers))
given_skips d stage state rest numbers head after =
    subst (All (IsGiven d)) (sym (with_by-skips stage state rest (stage_times d stage rest numbers)))
    (All-cons (IsGiven d) state (after_allotment stage rest (stage_times d stage rest numbers)) head after)

given_after : (d : Declaration) (stage : ℕ) (states : List UnitState) (numbers : List ℕ) → All (IsGiven d) states → All (IsGiven d) (after_allotment stage states (stage_times d stage states numbers))
given_after d stage [] numbers all = all
given_after d stage (state ∷ rest) numbers all =
    let head = All-head (IsGiven d) state rest all in
    let others = All-tail (IsGiven d) state rest all in
    subst (All (IsGiven d)) (sym (after_allotment-by stage state rest (stage_times d stage (state ∷ rest) numbers)))
    (elim (is_due_state stage state) as (λ b. All (IsGiven d) (with_by stage state rest b (times_named d (units_by stage state rest b) numbers))) [
      | true ↦ given_due d stage state rest numbers head others (λ ns. given_after d stage rest ns others)
      | false ↦ given_skips d stage state rest numbers head (given_after d stage rest numbers others)
    ])

pub stage_given : (d : Declaration) (stage : ℕ) (states : List UnitState) (choice : Option (List ℕ)) → All (IsGiven d) states → All (IsGiven d) (after_stage d stage states choice)
stage_given d stage states None all = all
stage_given d stage states (Some numbers) all = given_after d stage states numbers all

-- ---- before the first stage

abbrev FitsUnit : Term → UnitState → Type 0
FitsUnit season state = UnitFits season state.unit

first_are : (d : Declaration) (units : List SlotUnit) → All (FitsUnit d.season) (first_states units) → All (IsGiven d) (first_states units)
first_are d [] fit = All-nil (IsGiven d)
first_are d (unit ∷ units) fit =
    All-cons (IsGiven d) (first_state unit) (first_states units) (record { unit = All-head (FitsUnit d.season) (first_state unit) (first_states units) fit; given = tt })
    (first_are d units (All-tail (FitsUnit d.season) (first_state unit) (first_states units) fit))

pub first_given : (d : Declaration) (units : List SlotUnit) (states : List UnitState) → states ≡ first_states units → All (FitsUnit d.season) states → All (IsGiven d) states
first_given d units states is fit = subst (All (IsGiven d)) (sym is) (first_are d units (subst (All (FitsUnit d.season)) is fit))

-- ---- one stage more

abbrev choice_in : StageCert → Option (List ℕ)
choice_in cert = cert.choice

pub stages_on : (d : Declaration) (stage : ℕ) (states after whole : List UnitState) (certs : List StageCert) (i : ℕ) (cert : StageCert) → i < length certs → cert ≡ get_or certs i cert →
    after ≡ after_stage d stage states cert.choice → after_stages d stage states (drop i (map choice_in certs)) ≡ whole → after_stages d (stage + 1) after (drop (i + 1) (map choice_in certs)) ≡ whole
stages_on d stage states after whole certs i cert lt is made so_far =
    let choices : List (Option (List ℕ)) = map choice_in certs in
    let long : i < length choices = omega (arith, lt, length-map certs choice_in) in
    let own : get_or choices i None ≡ cert.choice = get_or-map choice_in certs i cert None lt ∙ ap choice_in (sym is) in
    let next : suc stage ≡ stage + 1 = omega arith in
    let step : after_stages d (suc stage) (after_stage d stage states (get_or choices i None)) (drop (i + 1) choices) ≡ whole = sym (at_drop_more (after_stages d stage states) choices i None long) ∙ so_far in
    ap (λ (s : List UnitState). after_stages d (stage + 1) s (drop (i + 1) choices)) (made ∙ ap (λ (o : Option (List ℕ)). after_stage d stage states o) (sym own))
    ∙ ap (λ (k : ℕ). after_stages d k (after_stage d stage states (get_or choices i None)) (drop (i + 1) choices)) (sym next) ∙ step

-- ---- a holding of what was given

abbrev pub AreNear : Type 0
AreNear = (d : Declaration) (unit : SlotUnit) → UnitFits d.season unit → All (TimesFit d.refuse) (options_of d unit)

abbrev pub AreSpelled : Type 0
AreSpelled = (d : Declaration) (unit : SlotUnit) → UnitFits d.season unit → All (λ times. LineFits d.season (line_at unit.request times)) (options_of d unit)

abbrev pub Alternatives : Type 0
Alternatives = (d : Declaration) (unit : SlotUnit) (arrival departure : ℕ) → UnitFits d.season unit → Contains (options_of d unit) (At arrival departure) →
    line_movements d.season (line_at unit.request (At arrival departure)) ≡ movements_of d.season unit (At arrival departure)

abbrev pub Historic : Type 0
Historic = (season : Term) (unit : SlotUnit) (historic : Line) → UnitFits season unit → unit.historic ≡ Some historic →
    line_movements season historic ≡ movements_of season unit (line_times historic)

near_times : (near : AreNear) (d : Declaration) (unit : SlotUnit) (given : Option Times) → UnitFits d.season unit → IsGivenTimes d unit given → ForSome given IsNear
near_times near d unit None fit is = λ t e. cc
near_times near d unit (Some Refused) fit is = λ t e. subst IsNear (some_one Refused t e) tt
  where
    some_one : (one other : Times) → Some one ≡ Some other → one ≡ other
    some_one one other e = cc
near_times near d unit (Some (At arrival departure)) fit is = λ t e.
    subst IsNear (some_one (At arrival departure) t e) (All-contains (TimesFit d.refuse) (options_of d unit) (At arrival departure) (near d unit fit) is).1
  where
    some_one : (one other : Times) → Some one ≡ Some other → one ≡ other
    some_one one other e = cc

abbrev IsNearState : UnitState → Type 0
IsNearState state = ForSome state.given IsNear

pub near_states : AreNear → (d : Declaration) (states : List UnitState) → All (IsGiven d) states → All IsNearState states
near_states near d states all = All-weaker (IsGiven d) IsNearState (λ state is. near_times near d state.unit state.given is.unit is.given) states all

same_times : (one other : Times) → are_same one other ≡ true → one ≡ other
same_times Refused Refused e = refl
same_times Refused (At arrival departure) e = cc
same_times (At arrival departure) Refused e = cc
same_times (At arrival departure) (At other later) e =
    let both = both_true (arrival == other) (departure == later) e in
    ap (λ (x : ℕ). At x departure) (eqb-true arrival other both.0) ∙ ap (λ (y : ℕ). At other y) (eqb-true departure later both.1)

-- what the holding of a unit has: a spelling, and the movements that were given
record IsHeldAs (d : Declaration) (unit : SlotUnit) (times : Times) (holding : Holding) : Type 0 where
  spelled : LineFits d.season holding.line
  movements : line_movements d.season holding.line ≡ movements_of d.season unit times

historic_fits : (season : Term) (request : Line) (group : Group) (historic : Option Line) (line : Line) → HistoricFits season request group historic → historic ≡ Some line → LineFits season line
historic_fits season request group None line fit e = cc
historic_fits season request F (Some historic) line fit e = cc
historic_fits season request B (Some historic) line fit e = cc
historic_fits season request N (Some historic) line fit e = cc
historic_fits season request R (Some historic) line fit e = subst (LineFits season) (some_line historic line e) fit.fits
  where
    some_line : (one other : Line) → Some one ≡ Some other → one ≡ other
    some_line one other e = cc
historic_fits season request L (Some historic) line fit e = subst (LineFits season) (some_line historic line e) fit.fits
  where
    some_line : (one other : Line) → Some one ≡ Some other → one ≡ other
    some_line one other e = cc

module _ (spelled : AreSpelled) (alternatives : Alternatives) (historics : Historic) (d : Declaration) (unit : SlotUnit) (fit : UnitFits d.season unit) (arrival departure : ℕ) (has : Contains (options_of d unit) (At arrival departure)) where
  abbrev times : Times
  times = At arrival departure

  as_offered : IsHeldAs d unit times (offered (line_at unit.request times))
  as_offered = record {
    spelled = All-contains (λ t. LineFits d.season (line_at unit.request t)) (options_of d unit) times (spelled d unit fit) has;
    movements = alternatives d unit arrival departure fit has;
  }

  as_requested : are_same times (line_times unit.request) ≡ true → IsHeldAs d unit times (confirmed unit.request)
  as_requested e = record {
    spelled = fit.request;
    movements = ap (λ (t : Times). movements_at d.season unit.request t) (sym (same_times times (line_times unit.request) e));
  }

  as_historic : (historic : Line) → unit.historic ≡ Some historic → are_same times (line_times historic) ≡ true → IsHeldAs d unit times (confirmed historic)
  as_historic historic is e = record {
    spelled = historic_fits d.season unit.request unit.group unit.historic historic fit.historic is;
    movements = historics d.season unit historic fit is ∙ ap (λ (t : Times). movements_of d.season unit t) (sym (same_times times (line_times historic) e));
  }

  as_moved : (historic : Option Line) → unit.historic ≡ historic → IsHeldAs d unit times (moved_holding unit.request historic times)
  as_moved None is = as_offered
  as_moved (Some historic) is =
      elim (are_same times (line_times historic)) as (λ b. are_same times (line_times historic) ≡ b → IsHeldAs d unit times (cond b (confirmed historic) (offered (line_at unit.request times)))) [
        | true ↦ as_historic historic is
        | false ↦ λ e. as_offered
      ] refl

  abbrev IsHeld : Option Holding → Type 0
  IsHeld None = ⊥
  IsHeld (Some holding) = IsHeldAs d unit times holding

  held_is : IsHeld (start_holding unit (Some times))
  held_is =
      elim (are_same times (line_times unit.request)) as (λ b. are_same times (line_times unit.request) ≡ b → IsHeld (cond b (Some (confirmed unit.request)) (Some (moved_holding unit.request unit.historic times)))) [
        | true ↦ as_requested
        | false ↦ λ e. as_moved unit.historic refl
      ] refl

abbrev IsStart : Declaration → SlotUnit → Option Times → Option Holding → Type 0
IsStart d unit given None = movements_once_given d.season unit given ≡ []
IsStart d unit given (Some holding) = LineFits d.season holding.line × (line_movements d.season holding.line ≡ movements_once_given d.season unit given)

module _ (spelled : AreSpelled) (alternatives : Alternatives) (historics : Historic) (d : Declaration) where
  from_held : (unit : SlotUnit) (arrival departure : ℕ) (fit : UnitFits d.season unit) (has : Contains (options_of d unit) (At arrival departure)) (holding : Option Holding) → IsHeld spelled alternatives historics d unit fit arrival departure has holding → IsStart d unit (Some (At arrival departure)) holding
  from_held unit arrival departure fit has None is = absurd is
  from_held unit arrival departure fit has (Some holding) is = (is.spelled, is.movements)

  start_is : (unit : SlotUnit) (given : Option Times) → UnitFits d.season unit → IsGivenTimes d unit given → IsStart d unit given (start_holding unit given)
  start_is unit None fit is = refl
  start_is unit (Some Refused) fit is = refl
  start_is unit (Some (At arrival departure)) fit is = from_held unit arrival departure fit is (start_holding unit (Some (At arrival departure))) (held_is spelled alternatives historics d unit fit arrival departure is)

  abbrev IsSpelled : Holding → Type 0
  IsSpelled holding = LineFits d.season holding.line

  -- ---- all of them

  more_movements : (unit : SlotUnit) (given : Option Times) (holding : Option Holding) (rest : List Holding) → IsStart d unit given holding → held_movements d.season (cons_option holding rest) ≡ movements_once_given d.season unit given ++ held_movements d.season rest
  more_movements unit given None rest is = ap (λ (t : List _). t ++ held_movements d.season rest) (sym is)
  more_movements unit given (Some holding) rest is = ap (λ (t : List _). t ++ held_movements d.season rest) is.1

  more_spelled : (unit : SlotUnit) (given : Option Times) (holding : Option Holding) (rest : List Holding) → IsStart d unit given holding → All IsSpelled rest → All IsSpelled (cons_option holding rest)
  more_spelled unit given None rest is all = all
  more_spelled unit given (Some holding) rest is all = All-cons IsSpelled holding rest is.0 all

  pub start_movements : (states : List UnitState) → All (IsGiven d) states → held_movements d.season (filter_map holding_of states) ≡ movements_given d.season states
  start_movements [] all = refl
  start_movements (state ∷ states) all =
      let head = All-head (IsGiven d) state states all in
      let rest = start_movements states (All-tail (IsGiven d) state states all) in
      more_movements state.unit state.given (holding_of state) (filter_map holding_of states) (start_is state.unit state.given head.unit head.given)
      ∙ ap (λ (t : List _). given_movements d.season state ++ t) rest

  pub start_spelled : (states : List UnitState) → All (IsGiven d) states → All IsSpelled (filter_map holding_of states)
  start_spelled [] all = All-nil IsSpelled
  start_spelled (state ∷ states) all =
      let head = All-head (IsGiven d) state states all in
      more_spelled state.unit state.given (holding_of state) (filter_map holding_of states) (start_is state.unit state.given head.unit head.given) (start_spelled states (All-tail (IsGiven d) state states all))

option_count : {X : Type 0} (x : Option X) (xs : List X) → length (cons_option x xs) ≤ suc (length xs)
option_count None xs = omega arith
option_count (Some x) xs = omega arith

pub start_count : (states : List UnitState) → length (filter_map holding_of states) ≤ length states
start_count [] = omega arith
start_count (state ∷ states) = omega (arith, option_count (holding_of state) (filter_map holding_of states), start_count states)

-- ---- a loop over the states

pub filter_next : (states : List UnitState) (n : ℕ) (d : UnitState) (holding : Option Holding) → n < length states → holding ≡ holding_of (get_or states n d) → filter_map holding_of (take (n + 1) states) ≡ filter_map holding_of (take n states) ++ cons_option holding []
filter_next states n d holding lt is =
    ap (λ (k : ℕ). filter_map holding_of (take k states)) (add-one n)
    ∙ ap (filter_map holding_of) (take-suc states n d lt)
    ∙ filter_map-append holding_of (take n states) (get_or states n d ∷ [])
    ∙ ap (λ (o : Option Holding). filter_map holding_of (take n states) ++ cons_option o []) (sym is)

-- ---- the start book

module _ (spelled : AreSpelled) (alternatives : Alternatives) (historics : Historic) (s : SubmissionView) (cert : Certificate) (states : List UnitState) (holdings : List Holding) (are : states ≡ states_after s.declaration s.units (choices_of cert)) (given : All (IsGiven s.declaration) states) (is : holdings ≡ filter_map holding_of states) where
  pub is_start : record { declaration = s.declaration; holdings = holdings } ≡ start_book s cert
  unfolding start_book
  is_start = ap (λ (hs : List Holding). record { declaration = s.declaration; holdings = hs }) (is ∙ ap (filter_map holding_of) are)

  pub lines_spelled : All (λ (holding : Holding). LineFits s.declaration.season holding.line) holdings
  lines_spelled = subst (All (λ (holding : Holding). LineFits s.declaration.season holding.line)) (sym is) (start_spelled spelled alternatives historics s.declaration states given)

  pub few_holdings : length states < 2 ^ 32 → length holdings < 2 ^ 32
  few_holdings few = omega (arith, few, start_count states, ap (λ (hs : List Holding). length hs) is)

  pub holdings_fit : GivenFits s.declaration (states_after s.declaration s.units (choices_of cert)) → WindowsFit (capacity_of s.declaration) (held_movements s.declaration.season holdings)
  holdings_fit fits =
      let moved : held_movements s.declaration.season holdings ≡ movements_given s.declaration.season (states_after s.declaration s.units (choices_of cert)) =
      ap (held_movements s.declaration.season) is ∙ start_movements spelled alternatives historics s.declaration states given ∙ ap (movements_given s.declaration.season) are in
      subst (WindowsFit (capacity_of s.declaration)) (sym moved) fits
