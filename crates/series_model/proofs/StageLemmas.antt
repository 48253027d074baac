-- What a stage gives: counts along lists, and limits.
use Rattle.std.proofs.Common.{◌≡◌, ℕ, suc, ◌+◌, ◌*◌, ◌/◌, ◌<◌, ◌≤◌, Bool, true, false, refl, ap, arith, lit<, mul-le-mul_left, List, [], ◌∷◌, ◌++◌}
use Rattle.std.specs.Prelude.{Option, Some, None, if◌then◌else◌, ◌==◌, map}
use Rattle.std.proofs.lemmas.List.Sums.{sum_by-append}
use Rattle.std.proofs.lemmas.Nat.{div_below}
use Rattle.season_days.specs.Term.{Term}
use Rattle.season_days.specs.Capacity.{Capacity, capacity_of}
use Rattle.season_days.specs.declared.declaration.Declaration.{Declaration}
use Rattle.capacity_windows.specs.Windows.{window_load}
use Rattle.capacity_windows.specs.declared.movement.Movement.{Movement}
use Rattle.series_model.specs.declared.unit.Unit.{Unit as SlotUnit}
use Rattle.series_model.specs.declared.times.Times.{Times}
use Rattle.series_model.specs.declared.state.UnitState.{UnitState}
use Rattle.series_model.specs.Movements.{movements_of}
use Rattle.series_model.specs.Allotments.{allotted_movements, IsFeasibleAllotment}
use Rattle.series_model.specs.Stages.{first_states, given_movements, movements_given, is_due_state, stage_units, limit_left, share_of, stage_limit, after_allotment, after_stages, AreFeasibleFrom, GivenFits}

-- the load of two lists, one after the other
window_load-append : (c : Capacity) (one other : List Movement) (r : ℕ) → window_load c (one ++ other) r ≡ window_load c one r + window_load c other r
window_load-append c one other r = sum_by-append _ one other

abbrev unit_of : UnitState → SlotUnit
unit_of state = state.unit

-- the units after the head of a list, which is one of the stage's or not
abbrev after_by : ℕ → UnitState → List UnitState → Times → List Times → Bool → List UnitState
after_by stage state states next times b = if b then record state { given = Some next } ∷ after_allotment stage states times else state ∷ after_allotment stage states (next ∷ times)

pub keep_units : (stage : ℕ) (states : List UnitState) (times : List Times) → map unit_of (after_allotment stage states times) ≡ map unit_of states
keep_units stage [] times = refl
keep_units stage (state ∷ states) [] = refl
keep_units stage (state ∷ states) (next ∷ times) =
    elim (is_due_state stage state) as (λ b. map unit_of (after_by stage state states next times b) ≡ state.unit ∷ map unit_of states) [
      | true ↦ ap (λ (units : List SlotUnit). state.unit ∷ units) (keep_units stage states times)
      | false ↦ ap (λ (units : List SlotUnit). state.unit ∷ units) (keep_units stage states (next ∷ times))
    ]

-- what is given after a stage loads no more than what was given before and what the stage gives
abbrev loads_more : Term → Capacity → ℕ → List UnitState → List UnitState → List SlotUnit → List Times → Type 0
loads_more season c r after states units times =
    window_load c (movements_given season after) r ≤ window_load c (movements_given season states) r + window_load c (allotted_movements season units times) r

abbrev units_by : ℕ → UnitState → List UnitState → Bool → List SlotUnit
units_by stage state states b = if b then state.unit ∷ stage_units stage states else stage_units stage states

after-load : (season : Term) (c : Capacity) (r stage : ℕ) (states : List UnitState) (times : List Times) →
    loads_more season c r (after_allotment stage states times) states (stage_units stage states) times
after-load season c r stage [] times = omega arith
after-load season c r stage (state ∷ states) [] = omega arith
after-load season c r stage (state ∷ states) (next ∷ times) =
    let head = given_movements season state in
    let before = window_load-append c head (movements_given season states) r in
    elim (is_due_state stage state) as (λ b.
    loads_more season c r (after_by stage state states next times b) (state ∷ states) (units_by stage state states b) (next ∷ times)) [
      | true ↦
          let own = movements_of season state.unit next in
          omega (
            arith,
            before,
            window_load-append c own (movements_given season (after_allotment stage states times)) r,
            window_load-append c own (allotted_movements season (stage_units stage states) times) r,
            after-load season c r stage states times,
          )
      | false ↦
          omega (
            arith,
            before,
            window_load-append c head (movements_given season (after_allotment stage states (next ∷ times))) r,
            after-load season c r stage states (next ∷ times),
          )
    ]

-- a share of at most 100 per cent is no more than all
share-le : (share n : ℕ) → share ≤ 100 → share_of share n ≤ n
share-le share n le =
    let part : n * share ≤ n * 100 = mul-le-mul_left n le in
    let below : (n * share + 99) / 100 < n + 1 = div_below (n * share + 99) 100 (n + 1) (lit< tt) (omega (arith, part)) in
    omega (arith, below)

limit-le : (d : Declaration) (stage : ℕ) (states : List UnitState) (r : ℕ) → d.share ≤ 100 → stage_limit d stage states r ≤ limit_left d states r
limit-le d stage states r le =
    elim (stage == 3) as (λ b. (if b then share_of d.share (limit_left d states r) else limit_left d states r) ≤ limit_left d states r) [
      | true ↦ share-le d.share (limit_left d states r) le
      | false ↦ omega arith
    ]

pub start_given : (season : Term) (units : List SlotUnit) → movements_given season (first_states units) ≡ []
start_given season [] = refl
start_given season (unit ∷ units) = start_given season units

pub step_fits : (d : Declaration) (stage : ℕ) (states : List UnitState) (times : List Times) → d.share ≤ 100 →
    GivenFits d states → IsFeasibleAllotment d (stage_units stage states) (stage_limit d stage states) times → GivenFits d (after_allotment stage states times)
step_fits d stage states times le fits feasible r lt =
    omega (arith, after-load d.season (capacity_of d) r stage states times, feasible.fits r lt, limit-le d stage states r le, fits r lt)

from_fits : (d : Declaration) (stage : ℕ) (states : List UnitState) (choices : List (Option (List ℕ))) → d.share ≤ 100 →
    GivenFits d states → AreFeasibleFrom d stage states choices → GivenFits d (after_stages d stage states choices)
from_fits d stage states [] le fits are = fits
from_fits d stage states (None ∷ choices) le fits are = from_fits d (suc stage) states choices le fits are
from_fits d stage states (Some choice ∷ choices) le fits are =
    from_fits d (suc stage) _ choices le (step_fits d stage states _ le fits are.0.feasible) are.1

pub all_fits : (d : Declaration) (units : List SlotUnit) (choices : List (Option (List ℕ))) → d.share ≤ 100 →
    AreFeasibleFrom d 1 (first_states units) choices → GivenFits d (after_stages d 1 (first_states units) choices)
all_fits d units choices le are =
    from_fits d 1 (first_states units) choices le (λ r lt. let none = ap (λ (list : List Movement). window_load (capacity_of d) list r) (start_given d.season units) in omega (arith, none)) are
