-- The four stages of initial allocation: which units each allots, what it may use of the capacity,
-- and what the units have been given after it. See the Worldwide Airport Slot Guidelines on the
-- order of initial allocation and on the half of the pool that is offered to new entrants.
use Rattle.std.specs.Prelude.{ℕ, suc, ◌+◌, ◌-◌, ◌*◌, ◌/◌, ◌<◌, ◌≤◌, ◌==◌, ◌&&◌, ◌||◌, not, Bool, true, false, if◌then◌else◌, List, [], ◌∷◌, length, map, take, All, Option, Some, None, is_some, slice_index_or}
use Rattle.std.specs.List.{AllZip, flat_map, list_all}
use Rattle.season_days.specs.Term.{Term}
use Rattle.season_days.specs.Capacity.{capacity_of}
use Rattle.season_days.specs.declared.declaration.Declaration.{Declaration}
use Rattle.capacity_windows.specs.Windows.{window_load, window_limit, WindowsFit}
use Rattle.capacity_windows.specs.declared.movement.Movement.{Movement}
use Rattle.series_model.specs.declared.group.Group.{Group}
use Rattle.series_model.specs.declared.group.Group.TheVariants.{F, R, L, B, N}
use Rattle.series_model.specs.declared.unit.Unit.{Unit as SlotUnit}
use Rattle.series_model.specs.declared.times.Times.{Times}
use Rattle.series_model.specs.declared.times.Times.TheVariants.{Refused, At}
use Rattle.series_model.specs.declared.state.UnitState.{UnitState}
use Rattle.choice_problem.specs.declared.problems.TheConstants.{MOST_UNITS}
use Rattle.series_model.specs.Units.{UnitFits}
use Rattle.series_model.specs.Submissions.{SubmissionView}
use Rattle.series_model.specs.Options.{options_of}
use Rattle.series_model.specs.Movements.{movements_of}
use Rattle.series_model.specs.Allotments.{IsFeasibleAllotment}

-- ---- what the units have been given

-- before the first stage
abbrev pub first_state : SlotUnit → UnitState
first_state unit = record { unit = unit; given = None }

abbrev pub first_states : List SlotUnit → List UnitState
first_states units = map first_state units

-- a refusal gives no slots
abbrev pub has_slots : Option Times → Bool
has_slots None = false
has_slots (Some Refused) = false
has_slots (Some (At arrival departure)) = true

-- the movements of a unit, and those of all units, one unit after the other
abbrev pub movements_once_given : Term → SlotUnit → Option Times → List Movement
movements_once_given season unit None = []
movements_once_given season unit (Some times) = movements_of season unit times

abbrev pub given_movements : Term → UnitState → List Movement
given_movements season state = movements_once_given season state.unit state.given

abbrev pub movements_given : Term → List UnitState → List Movement
movements_given season states = flat_map (given_movements season) states

-- units whose lines have a spelling in the season
abbrev pub AreFitting : Declaration → List UnitState → Type 0
AreFitting d states = All (λ (state : UnitState). UnitFits d.season state.unit) states

-- as stages leave the units of a submission
pub record AreStates (s : SubmissionView) (states : List UnitState) : Type 0 where
  pub few : length states ≤ MOST_UNITS
  pub fit : AreFitting s.declaration states

-- ---- which units a stage allots

-- Stage 1 allots the historic series, stage 2 the historic series that ask for other times, stage 3
-- the new entrants, and stage 4 all other requests. A new entrant that has no slots after stage 3,
-- because it was refused there or because stage 3 has no allotment, stands again in stage 4. All is
-- said of the units as they are before the stage.
abbrev pub is_due : ℕ → Group → Option Times → Bool
is_due stage F given = stage == 1
is_due stage R given = stage == 2
is_due stage L given = stage == 2
is_due stage B given = stage == 3 || (stage == 4 && not (has_slots given))
is_due stage N given = stage == 4

abbrev pub is_due_state : ℕ → UnitState → Bool
is_due_state stage state = is_due stage state.unit.group state.given

-- the units of a stage, in the order of the file
abbrev pub stage_units : ℕ → List UnitState → List SlotUnit
stage_units stage [] = []
stage_units stage (state ∷ states) =
    if is_due_state stage state then state.unit ∷ stage_units stage states
    else stage_units stage states

-- their positions among all units, counted from 0
abbrev pub positions_from : ℕ → ℕ → List UnitState → List ℕ
positions_from stage n [] = []
positions_from stage n (state ∷ states) =
    if is_due_state stage state then n ∷ positions_from stage (suc n) states
    else positions_from stage (suc n) states

abbrev pub stage_positions : ℕ → List UnitState → List ℕ
stage_positions stage states = positions_from stage 0 states

-- ---- what a stage may use

-- what a resource may still hold: its declared limit, less the movements that earlier stages gave
-- it. Where the choices of those are feasible these movements are within the declared limit, so
-- nothing is cut off at 0
abbrev pub limit_left : Declaration → List UnitState → ℕ → ℕ
limit_left d states r =
    window_limit (capacity_of d) r - window_load (capacity_of d) (movements_given d.season states) r

-- a share in per cent, rounded up
abbrev pub share_of : ℕ → ℕ → ℕ
share_of share n = (n * share + 99) / 100

-- new entrants are offered their share of what is left, the night quota included; all other stages
-- all of it
abbrev pub stage_limit : Declaration → ℕ → List UnitState → ℕ → ℕ
stage_limit d stage states r = if stage == 3 then share_of d.share (limit_left d states r)
    else limit_left d states r

-- all that was given fits the declared limits
abbrev pub GivenFits : Declaration → List UnitState → Type 0
GivenFits d states = WindowsFit (capacity_of d) (movements_given d.season states)

-- ---- what a stage gives

-- the units of the stage take these times, in their order
abbrev pub after_allotment : ℕ → List UnitState → List Times → List UnitState
after_allotment stage [] times = []
after_allotment stage (state ∷ states) [] = state ∷ states
after_allotment stage (state ∷ states) (given ∷ times) =
    if is_due_state stage state
    then record state { given = Some given } ∷ after_allotment stage states times
    else state ∷ after_allotment stage states (given ∷ times)

-- a choice has for each unit the number of one of its alternatives
abbrev pub times_named : Declaration → List SlotUnit → List ℕ → List Times
times_named d [] numbers = []
times_named d (unit ∷ units) [] = []
times_named d (unit ∷ units) (number ∷ numbers) =
    slice_index_or (options_of d unit) number Refused ∷ times_named d units numbers

abbrev pub stage_times : Declaration → ℕ → List UnitState → List ℕ → List Times
stage_times d stage states choice = times_named d (stage_units stage states) choice

-- after a stage, with its choice if it has one
abbrev pub after_stage : Declaration → ℕ → List UnitState → Option (List ℕ) → List UnitState
after_stage d stage states None = states
after_stage d stage states (Some choice) =
    after_allotment stage states (stage_times d stage states choice)

-- after the stages from one on
abbrev pub after_stages : Declaration → ℕ → List UnitState → List (Option (List ℕ)) → List UnitState
after_stages d stage states [] = states
after_stages d stage states (choice ∷ choices) =
    after_stages d (suc stage) (after_stage d stage states choice) choices

-- after these choices of the first stages
abbrev pub states_after : Declaration → List SlotUnit → List (Option (List ℕ)) → List UnitState
states_after d units choices = after_stages d 1 (first_states units) choices

-- ---- feasible choices of stages, each after those before it

-- whether the stage after these choices is tried at all: not where stage 1 or stage 2 has no
-- allotment
abbrev pub may_follow : List (Option (List ℕ)) → Bool
may_follow choices = list_all is_some (take 2 choices)

-- each number is that of an alternative of its unit, and these times are a feasible allotment of
-- the stage
pub record IsFeasibleChoice (d : Declaration) (stage : ℕ) (states : List UnitState)
    (choice : List ℕ) : Type 0 where
  pub numbers : AllZip (λ unit number. number < length (options_of d unit))
      (stage_units stage states) choice
  pub feasible : IsFeasibleAllotment d (stage_units stage states) (stage_limit d stage states)
      (stage_times d stage states choice)

abbrev pub AreFeasibleFrom : Declaration → ℕ → List UnitState → List (Option (List ℕ)) → Type 0
AreFeasibleFrom d stage states [] = Unit {0}
AreFeasibleFrom d stage states (None ∷ choices) = AreFeasibleFrom d (suc stage) states choices
AreFeasibleFrom d stage states (Some choice ∷ choices) =
    IsFeasibleChoice d stage states choice
    × AreFeasibleFrom d (suc stage) (after_stage d stage states (Some choice)) choices

-- the choices of the first stages
abbrev pub AreFeasibleChoices : Declaration → List SlotUnit → List (Option (List ℕ)) → Type 0
AreFeasibleChoices d units choices = AreFeasibleFrom d 1 (first_states units) choices
