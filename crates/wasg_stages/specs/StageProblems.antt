-- The problem of some units under a limit for each resource: the same units, alternatives, costs,
-- uses and limits, as plain numbers. It is a relation and no function, since the uses of an
-- alternative may be put into strips in many ways.
use Rattle.std.specs.Prelude.{◌≡◌, ℕ, ◌+◌, ◌<◌, List, length}
use Rattle.std.specs.List.{AllZip}
use Rattle.season_days.specs.Capacity.{capacity_of, declared_resources}
use Rattle.season_days.specs.declared.declaration.Declaration.{Declaration}
use Rattle.capacity_windows.specs.Windows.{window_load}
use Rattle.choice_problem.specs.declared.problems.Alt.{Alt}
use Rattle.choice_problem.specs.Problems.{ProblemView, ChooserView, named_uses, resource_count, limit_of}
use Rattle.series_model.specs.declared.unit.Unit.{Unit as SlotUnit}
use Rattle.series_model.specs.declared.times.Times.{Times}
use Rattle.series_model.specs.declared.state.UnitState.{UnitState}
use Rattle.series_model.specs.Options.{options_of}
use Rattle.series_model.specs.Movements.{movements_of}
use Rattle.series_model.specs.Displacement.{displacement_of}
use Rattle.series_model.specs.Stages.{stage_units, stage_limit}

-- an alternative costs what its times displace, and uses a resource as often as that holds its
-- movements
pub record IsAltOf (d : Declaration) (unit : SlotUnit) (m : ChooserView) (times : Times)
    (alt : Alt) : Type 0 where
  pub cost : alt.cost ≡ displacement_of d unit times
  pub uses : (r : ℕ) → named_uses m alt.one r + named_uses m alt.two r
      ≡ window_load (capacity_of d) (movements_of d.season unit times) r

-- the unit's alternatives, in their order
abbrev pub IsChooserOf : Declaration → SlotUnit → ChooserView → Type 0
IsChooserOf d unit m = AllZip (IsAltOf d unit m) (options_of d unit) m.alts

-- these units in their order, and these limits
pub record IsAllotmentProblem (d : Declaration) (units : List SlotUnit) (limit : ℕ → ℕ)
    (p : ProblemView) : Type 0 where
  pub units_are : AllZip (IsChooserOf d) units p.units
  pub resources : resource_count p ≡ declared_resources (capacity_of d)
  pub limits : (r : ℕ) → r < declared_resources (capacity_of d) → limit_of p r ≡ limit r

-- the problem of a stage: its units in the order of the file, and what the stage may use of each
-- resource
abbrev pub IsStageProblem : Declaration → ℕ → List UnitState → ProblemView → Type 0
IsStageProblem d stage states p =
    IsAllotmentProblem d (stage_units stage states) (stage_limit d stage states) p

-- the numbers of a choice are those of alternatives of the units
abbrev pub AreNumbers : Declaration → List SlotUnit → List ℕ → Type 0
AreNumbers d units choice = AllZip (λ unit number. number < length (options_of d unit)) units choice
