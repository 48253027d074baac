-- The book with which amendments begin: what the stages of a certificate gave.
use Rattle.std.specs.Prelude.{if◌then◌else◌, Option, Some, None}
use Rattle.std.specs.List.{filter_map}
use Rattle.scr_reader.specs.declared.line.Line.{Line}
use Rattle.cert_format.specs.declared.cert.Certificate.{Certificate}
use Rattle.cert_format.specs.Choices.{choices_of}
use Rattle.series_model.specs.declared.unit.Unit.{Unit as SlotUnit}
use Rattle.series_model.specs.declared.times.Times.{Times}
use Rattle.series_model.specs.declared.times.Times.TheVariants.{Refused, At}
use Rattle.series_model.specs.declared.state.UnitState.{UnitState}
use Rattle.series_model.specs.Options.{line_times, are_same}
use Rattle.series_model.specs.TimedLines.{line_at}
use Rattle.series_model.specs.Submissions.{SubmissionView}
use Rattle.series_model.specs.Stages.{states_after, AreFeasibleChoices}
use Rattle.holding_book.specs.declared.holding.Holding.{Holding}
use Rattle.holding_book.specs.Books.{SlotBook, confirmed, offered}

-- the historic times of a pair are confirmed, other times than the requested ones are offered
abbrev pub moved_holding : Line → Option Line → Times → Holding
moved_holding request None times = offered (line_at request times)
moved_holding request (Some historic) times =
    if are_same times (line_times historic) then confirmed historic
    else offered (line_at request times)

-- the requested times are confirmed; without slots there is no holding
abbrev pub start_holding : SlotUnit → Option Times → Option Holding
start_holding unit None = None
start_holding unit (Some Refused) = None
start_holding unit (Some (At arrival departure)) =
    if are_same (At arrival departure) (line_times unit.request) then Some (confirmed unit.request)
    else Some (moved_holding unit.request unit.historic (At arrival departure))

abbrev pub holding_of : UnitState → Option Holding
holding_of state = start_holding state.unit state.given

-- the units in the order of the file, by what they were given last
unfoldable pub start_book : SubmissionView → Certificate → SlotBook
start_book s c = record {
  declaration = s.declaration;
  holdings = filter_map holding_of
      (states_after s.declaration s.units (choices_of c));
}

-- each stage's choice, if any, is feasible after those before it
abbrev pub HasFeasibleChoices : SubmissionView → Certificate → Type 0
HasFeasibleChoices s c = AreFeasibleChoices s.declaration s.units (choices_of c)
