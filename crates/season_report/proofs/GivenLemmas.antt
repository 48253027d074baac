-- What a stage gives: the loads after it, and to whom nothing was given before the next.
use Rattle.std.proofs.Common.{◌≡◌, ℕ, ◌+◌, ◌-◌, ◌*◌, ◌/◌, ◌%◌, ◌<◌, ◌≤◌, inl, inr, Bool, true, false, refl, sym, ap, subst, arith, List, [], ◌∷◌, ◌++◌}
use Rattle.std.specs.Prelude.{Option, Some, None, All, if◌then◌else◌, not, ◌&&◌, ◌==◌, nat_lt}
use Rattle.std.specs.Option.{ForSome}
use Rattle.std.proofs.lemmas.Bool.{or_cases, and_parts, eqb-true}
use Rattle.std.proofs.lemmas.List.Elements.{All-nil, All-cons, All-head, All-tail, All-weaker}
use Rattle.std.proofs.lemmas.Nat.{mul-le}
use Rattle.season_days.specs.Term.{Term}
use Rattle.season_days.specs.Capacity.{Capacity, capacity_of, IsRule, IsCapacity}
use Rattle.season_days.specs.Seasons.{is_on}
use Rattle.season_days.specs.declared.declaration.Declaration.{Declaration}
use Rattle.season_days.specs.declared.declaration.Rule.{Rule}
use Rattle.season_days.specs.declared.declaration.Night.{Night}
use Rattle.season_days.specs.declared.declaration.TheConstants.{HIGHEST_WINDOW_LIMIT, HIGHEST_NIGHT_LIMIT, HIGHEST_SHARE}
use Rattle.capacity_windows.specs.Windows.{window_load, window_limit, resource_limit, resource_from, quota_from, windows_of, starts_of}
use Rattle.capacity_windows.specs.declared.movement.Movement.{Movement}
use Rattle.capacity_windows.specs.declared.resource.Resource.TheVariants.{Window, Quota, Nothing}
use Rattle.series_model.specs.declared.group.Group.{Group}
use Rattle.series_model.specs.declared.group.Group.TheVariants.{F, R, L, B, N}
use Rattle.series_model.specs.declared.unit.Unit.{Unit as SlotUnit}
use Rattle.series_model.specs.declared.times.Times.{Times}
use Rattle.series_model.specs.declared.times.Times.TheVariants.{Refused, At}
use Rattle.series_model.specs.declared.state.UnitState.{UnitState}
use Rattle.series_model.specs.Movements.{movements_of}
use Rattle.series_model.specs.Allotments.{allotted_movements, allotted_load}
use Rattle.series_model.specs.Stages.{first_state, first_states, has_slots, movements_once_given, given_movements, movements_given, is_due, is_due_state, stage_units, limit_left, share_of, stage_limit, after_allotment, stage_times, after_stage}
use Rattle.report_lines.specs.Peaks.{earlier_load}
use Rattle.season_report.specs.Private.{first_stage, IsOpen}
use Rattle.season_report.proofs.ApartLemmas.{window_load-append}

-- ---- a unit of the stage has no slots before it

due_none : (season : Term) (unit : SlotUnit) (stage : ℕ) (group : Group) (given : Option Times) → (stage ≤ first_stage group → given ≡ None) → is_due stage group given ≡ true → movements_once_given season unit given ≡ []
due_none season unit stage F given fresh due =
    let at = eqb-true stage 1 due in
    ap (movements_once_given season unit) (fresh (omega (arith, at)))
due_none season unit stage R given fresh due =
    let at = eqb-true stage 2 due in
    ap (movements_once_given season unit) (fresh (omega (arith, at)))
due_none season unit stage L given fresh due =
    let at = eqb-true stage 2 due in
    ap (movements_once_given season unit) (fresh (omega (arith, at)))
due_none season unit stage N given fresh due =
    let at = eqb-true stage 4 due in
    ap (movements_once_given season unit) (fresh (omega (arith, at)))
due_none season unit stage B None fresh due = refl
due_none season unit stage B (Some Refused) fresh due = refl
due_none season unit stage B (Some (At arrival departure)) fresh due =
    elim (or_cases (stage == 3) (stage == 4 && false) due) as (λ w. movements_once_given season unit (Some (At arrival departure)) ≡ []) [
      | inl third ↦ let at = eqb-true stage 3 third in ap (movements_once_given season unit) (fresh (omega (arith, at)))
      | inr fourth ↦ let both = and_parts (stage == 4) false fourth in cc both.1
    ]

-- ---- the load after a stage

none_allotted : (season : Term) (units : List SlotUnit) → allotted_movements season units [] ≡ []
none_allotted season [] = refl
none_allotted season (unit ∷ units) = refl

load_more : (c : Capacity) (one two : List Movement) (r a b : ℕ) → window_load c one r ≡ a → window_load c two r ≡ b → window_load c (one ++ two) r ≡ a + b
load_more c one two r a b first second = omega (arith, first, second, window_load-append c one two r)

abbrev after_by : ℕ → UnitState → List UnitState → Times → List Times → Bool → List UnitState
after_by stage state states given times due =
    if due then record state { given = Some given } ∷ after_allotment stage states times else state ∷ after_allotment stage states (given ∷ times)

abbrev units_by : ℕ → UnitState → List UnitState → Bool → List SlotUnit
units_by stage state states due = if due then state.unit ∷ stage_units stage states else stage_units stage states

pub load_after : (d : Declaration) (stage : ℕ) (states : List UnitState) (times : List Times) (r : ℕ) → All (IsOpen stage) states →
    earlier_load d (after_allotment stage states times) r ≡ earlier_load d states r + allotted_load d (stage_units stage states) times r
load_after d stage [] times r fresh = refl
load_after d stage (state ∷ states) [] r fresh =
    let c = capacity_of d in
    omega (arith, ap (λ (m : List Movement). window_load c m r) (none_allotted d.season (stage_units stage (state ∷ states))))
load_after d stage (state ∷ states) (given ∷ times) r fresh =
    let c = capacity_of d in
    let season = d.season in
    let own = All-head (IsOpen stage) state states fresh in
    let others = All-tail (IsOpen stage) state states fresh in
    let was = window_load-append c (given_movements season state) (movements_given season states) r in
    (elim (is_due_state stage state) as (λ b. is_due_state stage state ≡ b → earlier_load d (after_by stage state states given times b) r
    ≡ earlier_load d (state ∷ states) r + allotted_load d (units_by stage state states b) (given ∷ times) r) [
      | true ↦ λ due.
          let nothing : window_load c (given_movements season state) r ≡ 0 = ap (λ (m : List Movement). window_load c m r) (due_none season state.unit stage state.unit.group state.given own due) in
          let its = movements_of season state.unit given in
          omega (
            arith,
            was,
            nothing,
            load_after d stage states times r others,
            window_load-append c its (movements_given season (after_allotment stage states times)) r,
            window_load-append c its (allotted_movements season (stage_units stage states) times) r,
          )
      | false ↦ λ due.
          omega (
            arith,
            was,
            load_after d stage states (given ∷ times) r others,
            window_load-append c (given_movements season state) (movements_given season (after_allotment stage states (given ∷ times))) r,
          )
    ]) refl

-- ---- to whom nothing was given

keeps_after : (P Q : UnitState → Type 0) (stage : ℕ) → ((state : UnitState) (given : Times) → is_due_state stage state ≡ true → P state → Q (record state { given = Some given })) → ((state : UnitState) → P state → Q state) →
    (states : List UnitState) (times : List Times) → All P states → All Q (after_allotment stage states times)
keeps_after P Q stage due_next next [] times all = All-nil Q
keeps_after P Q stage due_next next (state ∷ states) [] all = All-weaker P Q next (state ∷ states) all
keeps_after P Q stage due_next next (state ∷ states) (given ∷ times) all =
    let own = All-head P state states all in
    let others = All-tail P state states all in
    (elim (is_due_state stage state) as (λ b. is_due_state stage state ≡ b → All Q (after_by stage state states given times b)) [
      | true ↦ λ due. All-cons Q (record state { given = Some given }) (after_allotment stage states times) (due_next state given due own) (keeps_after P Q stage due_next next states times others)
      | false ↦ λ due. All-cons Q state (after_allotment stage states (given ∷ times)) (next state own) (keeps_after P Q stage due_next next states (given ∷ times) others)
    ]) refl

due_first : (stage : ℕ) (group : Group) (given : Option Times) → is_due stage group given ≡ true → first_stage group ≤ stage
due_first stage F given due = let at = eqb-true stage 1 due in omega (arith, at)
due_first stage R given due = let at = eqb-true stage 2 due in omega (arith, at)
due_first stage L given due = let at = eqb-true stage 2 due in omega (arith, at)
due_first stage N given due = let at = eqb-true stage 4 due in omega (arith, at)
due_first stage B given due =
    elim (or_cases (stage == 3) (stage == 4 && not (has_slots given)) due) as (λ w. 3 ≤ stage) [
      | inl third ↦ let at = eqb-true stage 3 third in omega (arith, at)
      | inr fourth ↦ let both = and_parts (stage == 4) (not (has_slots given)) fourth in let at = eqb-true stage 4 both.0 in omega (arith, at)
    ]

open_later : (stage : ℕ) (state : UnitState) → IsOpen stage state → IsOpen (stage + 1) state
open_later stage state fresh later = fresh (omega (arith, later))

pub open_after : (d : Declaration) (stage : ℕ) (states : List UnitState) (choice : Option (List ℕ)) → All (IsOpen stage) states → All (IsOpen (stage + 1)) (after_stage d stage states choice)
open_after d stage states None fresh = All-weaker (IsOpen stage) (IsOpen (stage + 1)) (open_later stage) states fresh
open_after d stage states (Some choice) fresh =
    keeps_after (IsOpen stage) (IsOpen (stage + 1)) stage
    (λ state given due own later. absurd (omega (arith, later, due_first stage state.unit.group state.given due)))
    (open_later stage) states (stage_times d stage states choice) fresh

open_first : (units : List SlotUnit) → All (IsOpen 1) (first_states units)
open_first [] = All-nil (IsOpen 1)
open_first (unit ∷ units) = All-cons (IsOpen 1) (first_state unit) (first_states units) (λ later. refl) (open_first units)

pub first_open : (units : List SlotUnit) (states : List UnitState) → states ≡ first_states units → All (IsOpen 1) states
first_open units states is = subst (All (IsOpen 1)) (sym is) (open_first units)

-- ---- limits are small

share_small : (share n : ℕ) → share ≤ 100 → share_of share n ≤ n
share_small share n le =
    let most : n * share ≤ n * 100 = mul-le n share n 100 (omega arith) le in
    let near : n * share + 99 < (n + 1) * 100 = omega (arith, most) in
    omega (arith, near)

pub limit_small : (d : Declaration) (stage : ℕ) (states : List UnitState) (r : ℕ) → d.share ≤ HIGHEST_SHARE → stage_limit d stage states r ≤ window_limit (capacity_of d) r
limit_small d stage states r share =
    let left = limit_left d states r in
    elim (stage == 3) as (λ b. (if b then share_of d.share left else left) ≤ window_limit (capacity_of d) r) [
      | true ↦ omega (arith, share_small d.share left share)
      | false ↦ omega arith
    ]

day_small : (b : Bool) (n : ℕ) → n ≤ HIGHEST_WINDOW_LIMIT → (if b then n else 0) ≤ HIGHEST_NIGHT_LIMIT
day_small true n le = omega arith
day_small false n le = omega arith

abbrev IsSmallNight : Option Night → Type 0
IsSmallNight night = ForSome night (λ quota. quota.limit ≤ HIGHEST_NIGHT_LIMIT)

quota_small : (c : Capacity) (night : Option Night) (r : ℕ) → IsSmallNight night → resource_limit c (quota_from night r) ≤ HIGHEST_NIGHT_LIMIT
quota_small c None r small = omega arith
quota_small c (Some night) r small =
    elim (r == 0) as (λ b. resource_limit c (if b then Quota night else Nothing) ≤ HIGHEST_NIGHT_LIMIT) [
      | true ↦ small night refl
      | false ↦ omega arith
    ]

rules_small : (c : Capacity) (rules : List Rule) (r : ℕ) → All IsRule rules → IsSmallNight c.night → resource_limit c (resource_from c rules r) ≤ HIGHEST_NIGHT_LIMIT
rules_small c [] r all small = quota_small c c.night r small
rules_small c (rule ∷ rules) r all small =
    let own : IsRule rule = All-head IsRule rule rules all in
    elim (nat_lt r (windows_of c rule)) as (λ b. resource_limit c (if b then Window rule (r / starts_of c.step rule) (r % starts_of c.step rule) else resource_from c rules (r - windows_of c rule)) ≤ HIGHEST_NIGHT_LIMIT) [
      | true ↦ day_small (is_on c.season rule.days (r / starts_of c.step rule)) rule.limit own.limit
      | false ↦ rules_small c rules (r - windows_of c rule) (All-tail IsRule rule rules all) small
    ]

pub declared_small : (c : Capacity) (r : ℕ) → IsCapacity c → window_limit c r ≤ HIGHEST_NIGHT_LIMIT
declared_small c r keeps = rules_small c c.rules r keeps.rules keeps.night
