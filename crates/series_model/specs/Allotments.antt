-- Allotments: one alternative for each of some units, so that no resource holds more of their
-- movements than a limit that is given for it. Which are feasible, what they displace, which
-- displace least, and what bounds them from below. The units of a stage with the limits of that
-- stage are one case; nothing here depends on how an allotment is found.
use Rattle.std.specs.Prelude.{ℕ, ◌+◌, ◌<◌, ◌≤◌, List, [], ◌∷◌, ◌++◌, Contains}
use Rattle.std.specs.List.{AllZip}
use Rattle.season_days.specs.Term.{Term}
use Rattle.season_days.specs.Capacity.{capacity_of, declared_resources}
use Rattle.season_days.specs.declared.declaration.Declaration.{Declaration}
use Rattle.capacity_windows.specs.Windows.{window_load}
use Rattle.capacity_windows.specs.declared.movement.Movement.{Movement}
use Rattle.series_model.specs.declared.unit.Unit.{Unit as SlotUnit}
use Rattle.series_model.specs.declared.times.Times.{Times}
use Rattle.series_model.specs.Options.{options_of}
use Rattle.series_model.specs.Movements.{movements_of}
use Rattle.series_model.specs.Displacement.{displacement_of}

-- ---- what an allotment is, and what it displaces

-- each unit has one of its alternatives
abbrev pub AreAlternatives : Declaration → List SlotUnit → List Times → Type 0
AreAlternatives d units times =
    AllZip (λ unit given. Contains (options_of d unit) given) units times

-- the movements of the units at these times
abbrev pub allotted_movements : Term → List SlotUnit → List Times → List Movement
allotted_movements season [] times = []
allotted_movements season (unit ∷ units) [] = []
allotted_movements season (unit ∷ units) (given ∷ times) =
    movements_of season unit given ++ allotted_movements season units times

-- the sum of their displacements
abbrev pub total_displacement : Declaration → List SlotUnit → List Times → ℕ
total_displacement d [] times = 0
total_displacement d (unit ∷ units) [] = 0
total_displacement d (unit ∷ units) (given ∷ times) =
    displacement_of d unit given + total_displacement d units times

-- how many of the movements a resource holds
abbrev pub allotted_load : Declaration → List SlotUnit → List Times → ℕ → ℕ
allotted_load d units times r =
    window_load (capacity_of d) (allotted_movements d.season units times) r

-- ---- which are feasible, and which are best

-- one alternative for each unit, and no resource holds more of their movements than its limit
pub record IsFeasibleAllotment (d : Declaration) (units : List SlotUnit) (limit : ℕ → ℕ)
    (times : List Times) : Type 0 where
  pub alternatives : AreAlternatives d units times
  pub fits : (r : ℕ) → r < declared_resources (capacity_of d) →
      allotted_load d units times r ≤ limit r

-- feasible, and no feasible allotment displaces less
pub record IsLeastAllotment (d : Declaration) (units : List SlotUnit) (limit : ℕ → ℕ)
    (times : List Times) : Type 0 where
  pub feasible : IsFeasibleAllotment d units limit times
  pub least : (other : List Times) → IsFeasibleAllotment d units limit other →
      total_displacement d units times ≤ total_displacement d units other

-- no allotment is feasible
abbrev pub HasNoAllotment : Declaration → List SlotUnit → (ℕ → ℕ) → Type 0
HasNoAllotment d units limit = (times : List Times) → IsFeasibleAllotment d units limit times → ⊥

-- no feasible allotment displaces less than the bound
abbrev pub IsDisplacementBound : Declaration → List SlotUnit → (ℕ → ℕ) → ℕ → Type 0
IsDisplacementBound d units limit bound =
    (times : List Times) → IsFeasibleAllotment d units limit times →
    bound ≤ total_displacement d units times
