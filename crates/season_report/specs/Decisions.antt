-- What the stages of a certificate decided of each unit: in which stage, and what that gave it.
use Rattle.std.specs.Prelude.{ℕ, ◌-◌, ◌==◌, Bool, true, false, if◌then◌else◌, List, [], ◌∷◌, take, slice_index_or, Option, Some, None, is_some}
use Rattle.cert_format.specs.declared.cert.Certificate.{Certificate}
use Rattle.cert_format.specs.Choices.{choices_of}
use Rattle.scr_reader.specs.declared.line.Line.{Line}
use Rattle.series_model.specs.declared.group.Group.{Group}
use Rattle.series_model.specs.declared.group.Group.TheVariants.{F, R, L, B, N}
use Rattle.series_model.specs.declared.unit.Unit.{Unit as SlotUnit}
use Rattle.series_model.specs.declared.state.UnitState.{UnitState}
use Rattle.series_model.specs.declared.times.Times.{Times}
use Rattle.series_model.specs.declared.times.Times.TheVariants.{Refused as refused_times, At}
use Rattle.series_model.specs.Options.{line_times, are_same}
use Rattle.series_model.specs.Submissions.{SubmissionView}
use Rattle.series_model.specs.Stages.{has_slots, states_after}
use Rattle.season_report.specs.declared.decided.Decided.{Decided}
use Rattle.season_report.specs.declared.decided.Decision.{Decision}
use Rattle.season_report.specs.declared.decided.Decision.TheVariants.{Unallotted, Refused, Kept, Historic, Moved}

-- ---- the stages of a certificate

-- the choice of a stage, which counts from 1; none where it has no allotment
abbrev pub choice_at : Certificate → ℕ → Option (List ℕ)
choice_at c stage = slice_index_or (choices_of c) (stage - 1) None

-- the units before a stage, with what the stages before it gave them; before stage 5 all is given
abbrev pub states_before : SubmissionView → Certificate → ℕ → List UnitState
states_before s c stage = states_after s.declaration s.units (take (stage - 1) (choices_of c))

-- ---- where a unit is decided

-- the last of the stages of a unit, by what it has after stage 3: a new entrant that has no slots
-- then stands again in stage 4, whether that is tried or not
abbrev pub last_stage : Group → Option Times → ℕ
last_stage F given = 1
last_stage R given = 2
last_stage L given = 2
last_stage B given = if has_slots given then 3 else 4
last_stage N given = 4

abbrev pub stage_of : UnitState → ℕ
stage_of state = last_stage state.unit.group state.given

-- what the unit has at the end, where this stage has an allotment
abbrev pub given_in : Certificate → ℕ → Option Times → Option Times
given_in c stage given = if is_some (choice_at c stage) then given else None

-- the unit as it is after stage 3, and after stage 4
abbrev pub decided_of : Certificate → UnitState → UnitState → Decided
decided_of c before after =
    record {
      unit = after.unit;
      stage = stage_of before;
      given = given_in c (stage_of before) after.given;
    }

abbrev pub decided_units : Certificate → List UnitState → List UnitState → List Decided
decided_units c [] afters = []
decided_units c (before ∷ befores) [] = []
decided_units c (before ∷ befores) (after ∷ afters) =
    decided_of c before after ∷ decided_units c befores afters

-- all units, in the order of the file
abbrev pub season_decided : SubmissionView → Certificate → List Decided
season_decided s c = decided_units c (states_before s c 4) (states_before s c 5)

-- ---- what was decided

-- other times than the requested ones: those of the historic line of a pair, or others
abbrev pub moved_decision : Option Line → Times → Decision
moved_decision None times = Moved
moved_decision (Some historic) times =
    if are_same times (line_times historic) then Historic else Moved

abbrev pub timed_decision : SlotUnit → Times → Decision
timed_decision unit times =
    if are_same times (line_times unit.request) then Kept else moved_decision unit.historic times

-- no allotment, no slots, or slots at some times: a pair whose two lines name the same times is
-- kept
abbrev pub decision_of : SlotUnit → Option Times → Decision
decision_of unit None = Unallotted
decision_of unit (Some refused_times) = Refused
decision_of unit (Some (At arrival departure)) = timed_decision unit (At arrival departure)

abbrev pub decision : Decided → Decision
decision u = decision_of u.unit u.given

abbrev pub is_decision : Decision → Decision → Bool
is_decision Unallotted Unallotted = true
is_decision Refused Refused = true
is_decision Kept Kept = true
is_decision Historic Historic = true
is_decision Moved Moved = true
is_decision one other = false

abbrev pub has_decision : Decision → Decided → Bool
has_decision one u = is_decision one (decision u)

-- decided in this stage
abbrev pub is_of_stage : ℕ → Decided → Bool
is_of_stage stage u = stage == u.stage
