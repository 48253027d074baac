-- The waiting list of a book: the asks for new slots that were answered that there are none, and
-- the problem of what they can still be given beside the book.
use Rattle.std.specs.Prelude.{ℕ, ◌||◌, not, nat_lt, Bool, if◌then◌else◌, List, [], ◌∷◌, ◌++◌, length, map, drop, slice_get, slice_index_or, option_map, Option, Some, None, Result, Ok, Err}
use Rattle.std.specs.Option.{unwrap_or}
use Rattle.std.specs.List.{list_any}
use Rattle.season_days.specs.declared.declaration.Declaration.{Declaration}
use Rattle.season_days.specs.declared.declaration.TheConstants.{HIGHEST_REFUSAL_PRICE}
use Rattle.scr_reader.specs.declared.line.Line.{Line}
use Rattle.choice_problem.specs.declared.problems.TheConstants.{MOST_UNITS}
use Rattle.choice_problem.specs.Problems.{ProblemView}
use Rattle.series_model.specs.declared.group.Group.TheVariants.{N as group_n}
use Rattle.series_model.specs.declared.unit.Unit.{Unit as SlotUnit}
use Rattle.series_model.specs.declared.times.Times.TheVariants.{Refused}
use Rattle.series_model.specs.declared.state.UnitState.{UnitState}
use Rattle.series_model.specs.Units.{single_unit}
use Rattle.series_model.specs.Options.{options_of}
use Rattle.wasg_stages.specs.StageProblems.{IsAllotmentProblem}
use Rattle.holding_book.specs.declared.answer.Answer.{Answer}
use Rattle.holding_book.specs.declared.answer.Answer.TheVariants.{U as refused}
use Rattle.holding_book.specs.declared.answer.Entry.{Entry}
use Rattle.holding_book.specs.Lines.{clashes}
use Rattle.holding_book.specs.Books.{SlotBook, season_of, clashes_with}
use Rattle.holding_book.specs.Left.{left_of}
use Rattle.holding_book.specs.Hints.{new_line}
use Rattle.wait_list.specs.declared.fault.WaitFault.{WaitFault}
use Rattle.wait_list.specs.declared.fault.WaitFault.TheVariants.{TooMany}

-- ---- which asks wait

-- the line of an N or B ask that was answered U
abbrev pub unmet_by : Answer → Option Line → Option Line
unmet_by refused line = line
unmet_by answer line = None

abbrev pub unmet_line : Entry → Option Line
unmet_line entry = unmet_by entry.answer (new_line entry.ask)

-- whether a line clashes with no holding, confirmed or offered, and with no line that waits already
abbrev pub may_wait : SlotBook → List Line → Line → Bool
may_wait b waiting line =
    not (clashes_with (season_of b) line b.holdings
    || list_any (clashes (season_of b) line) waiting)

-- a line that may not wait is left out
abbrev pub with_line : SlotBook → List Line → Option Line → List Line
with_line b waiting None = waiting
with_line b waiting (Some line) =
    if may_wait b waiting line then waiting ++ line ∷ [] else waiting

-- these lines wait already, and then those of the entries, one after the other
abbrev pub waiting_after : SlotBook → List Line → List Entry → List Line
waiting_after b waiting [] = waiting
waiting_after b waiting (entry ∷ history) =
    waiting_after b (with_line b waiting (unmet_line entry)) history

-- The lines that wait at the end of a history, beside the book that it left: of the unmet asks in
-- their order each that clashes with no holding and with no line kept before it. An ask whose
-- flight came into the book later waits no more.
unfoldable pub waiting_lines : SlotBook → List Entry → List Line
waiting_lines b history = waiting_after b [] history

-- as many units as a problem may have can wait
abbrev pub waiting_answer : List Line → Result (List Line) WaitFault
waiting_answer lines = if nat_lt MOST_UNITS (length lines) then Err (TooMany (length lines))
    else Ok lines

-- ---- what they can be given: one more stage

-- each is a unit of group N, also one that was asked as a new entrant
abbrev pub waiting_unit : Line → SlotUnit
waiting_unit line = single_unit 0 line group_n

abbrev pub waiting_units : List Line → List SlotUnit
waiting_units lines = map waiting_unit lines

-- each may be refused: at the declared price, or at the highest one where none is declared
abbrev pub waiting_price : Option ℕ → ℕ
waiting_price None = HIGHEST_REFUSAL_PRICE
waiting_price (Some price) = price

abbrev pub waiting_terms : Declaration → Declaration
waiting_terms d = record d { refuse = Some (waiting_price d.refuse) }

-- the problem of the waiting stage: these units with their alternatives and displacements, and of
-- each resource what all holdings leave of its declared limit
abbrev pub IsWaitingProblem : SlotBook → List Line → ProblemView → Type 0
IsWaitingProblem b lines p =
    IsAllotmentProblem (waiting_terms b.declaration) (waiting_units lines) (left_of b) p

-- ---- what they are given by a choice

-- the alternative of this number; a number that names none counts as a refusal
abbrev pub given_state : Declaration → Line → Option ℕ → UnitState
given_state terms line number = record {
  unit = waiting_unit line;
  given = option_map
      (λ n. slice_index_or (options_of terms (waiting_unit line)) n Refused) number;
}

-- each line by its own number; one without a number is given nothing
abbrev pub given_states : Declaration → List Line → List ℕ → List UnitState
given_states terms [] numbers = []
given_states terms (line ∷ lines) numbers =
    given_state terms line (slice_get numbers 0) ∷ given_states terms lines (drop 1 numbers)

-- by the choice of a stage, if it has one
abbrev pub allotted_states : Declaration → List Line → Option (List ℕ) → List UnitState
allotted_states d lines choice = given_states (waiting_terms d) lines (unwrap_or choice [])
