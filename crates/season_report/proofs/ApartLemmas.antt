-- A load and a cost without one of the units, and with other times for it.
use Rattle.std.proofs.Common.{◌≡◌, ℕ, zero, suc, ◌+◌, refl, ◌∙◌, ap, subst, arith, List, [], ◌∷◌, ◌++◌, set}
use Rattle.std.specs.Prelude.{slice_get, Some, Contains}
use Rattle.std.proofs.lemmas.List.Sums.{sum_by-append}
use Rattle.season_days.specs.declared.declaration.Declaration.{Declaration}
use Rattle.capacity_windows.specs.Windows.{Capacity, capacity_of, window_load}
use Rattle.capacity_windows.specs.declared.movement.Movement.{Movement}
use Rattle.series_model.specs.declared.unit.Unit.{Unit as SlotUnit}
use Rattle.series_model.specs.declared.times.Times.{Times}
use Rattle.series_model.specs.Options.{options_of}
use Rattle.series_model.specs.Movements.{movements_of}
use Rattle.series_model.specs.Displacement.{displacement_of}
use Rattle.series_model.specs.Allotments.{AreAlternatives, allotted_movements, allotted_load, total_displacement}
use Rattle.report_lines.specs.Peaks.{unit_load}
use Rattle.season_report.specs.Reasons.{without}

pub window_load-append : (c : Capacity) (one two : List Movement) (r : ℕ) → window_load c (one ++ two) r ≡ window_load c one r + window_load c two r
window_load-append c one two r = sum_by-append _ one two

-- ---- without a unit

pub load_apart : (d : Declaration) (units : List SlotUnit) (times : List Times) (place : ℕ) (unit : SlotUnit) (given : Times) (r : ℕ) →
    slice_get units place ≡ Some unit → slice_get times place ≡ Some given →
    allotted_load d units times r ≡ allotted_load d (without place units) (without place times) r + unit_load d unit given r
load_apart d [] times place unit given r at was = cc
load_apart d (own ∷ units) [] place unit given r at was = cc
load_apart d (own ∷ units) (its ∷ times) zero unit given r at was =
    let c = capacity_of d in
    let same : own ≡ unit = cc in
    let taken : its ≡ given = cc in
    let there : window_load c (movements_of d.season own its) r ≡ unit_load d unit given r = ap (λ (u : SlotUnit). unit_load d u its r) same ∙ ap (λ (t : Times). unit_load d unit t r) taken in
    omega (arith, there, window_load-append c (movements_of d.season own its) (allotted_movements d.season units times) r)
load_apart d (own ∷ units) (its ∷ times) (suc place) unit given r at was =
    let c = capacity_of d in
    omega (
      arith,
      load_apart d units times place unit given r at was,
      window_load-append c (movements_of d.season own its) (allotted_movements d.season units times) r,
      window_load-append c (movements_of d.season own its) (allotted_movements d.season (without place units) (without place times)) r,
    )

pub cost_apart : (d : Declaration) (units : List SlotUnit) (times : List Times) (place : ℕ) (unit : SlotUnit) (given : Times) →
    slice_get units place ≡ Some unit → slice_get times place ≡ Some given →
    total_displacement d units times ≡ total_displacement d (without place units) (without place times) + displacement_of d unit given
cost_apart d [] times place unit given at was = cc
cost_apart d (own ∷ units) [] place unit given at was = cc
cost_apart d (own ∷ units) (its ∷ times) zero unit given at was =
    let same : own ≡ unit = cc in
    let taken : its ≡ given = cc in
    let there : displacement_of d own its ≡ displacement_of d unit given = ap (λ (u : SlotUnit). displacement_of d u its) same ∙ ap (λ (t : Times). displacement_of d unit t) taken in
    omega (arith, there)
cost_apart d (own ∷ units) (its ∷ times) (suc place) unit given at was =
    omega (arith, cost_apart d units times place unit given at was)

-- ---- with other times for it

pub without-set : {X : Type 0} (place : ℕ) (xs : List X) (x : X) → without place (set xs place x) ≡ without place xs
without-set place [] x = refl
without-set zero (y ∷ ys) x = refl
without-set (suc place) (y ∷ ys) x = ap (λ zs. y ∷ zs) (without-set place ys x)

pub slice_get-set : {X : Type 0} (xs : List X) (place : ℕ) (was x : X) → slice_get xs place ≡ Some was → slice_get (set xs place x) place ≡ Some x
slice_get-set [] place was x at = cc
slice_get-set (y ∷ ys) zero was x at = refl
slice_get-set (y ∷ ys) (suc place) was x at = slice_get-set ys place was x at

pub load_set : (d : Declaration) (units : List SlotUnit) (times : List Times) (place : ℕ) (unit : SlotUnit) (given other : Times) (r : ℕ) →
    slice_get units place ≡ Some unit → slice_get times place ≡ Some given →
    allotted_load d units (set times place other) r ≡ allotted_load d (without place units) (without place times) r + unit_load d unit other r
load_set d units times place unit given other r at was =
    load_apart d units (set times place other) place unit other r at (slice_get-set times place given other was)
    ∙ ap (λ (ts : List Times). allotted_load d (without place units) ts r + unit_load d unit other r) (without-set place times other)

pub cost_set : (d : Declaration) (units : List SlotUnit) (times : List Times) (place : ℕ) (unit : SlotUnit) (given other : Times) →
    slice_get units place ≡ Some unit → slice_get times place ≡ Some given →
    total_displacement d units (set times place other) ≡ total_displacement d (without place units) (without place times) + displacement_of d unit other
cost_set d units times place unit given other at was =
    cost_apart d units (set times place other) place unit other at (slice_get-set times place given other was)
    ∙ ap (λ (ts : List Times). total_displacement d (without place units) ts + displacement_of d unit other) (without-set place times other)

pub alternatives_set : (d : Declaration) (units : List SlotUnit) (times : List Times) (place : ℕ) (unit : SlotUnit) (other : Times) →
    slice_get units place ≡ Some unit → Contains (options_of d unit) other → AreAlternatives d units times → AreAlternatives d units (set times place other)
alternatives_set d [] times place unit other at is are = cc
alternatives_set d (own ∷ units) [] place unit other at is are = absurd are
alternatives_set d (own ∷ units) (its ∷ times) zero unit other at is are =
    let same : unit ≡ own = cc in
    (subst (λ (u : SlotUnit). Contains (options_of d u) other) same is, are.1)
alternatives_set d (own ∷ units) (its ∷ times) (suc place) unit other at is are =
    (are.0, alternatives_set d units times place unit other at is are.1)
