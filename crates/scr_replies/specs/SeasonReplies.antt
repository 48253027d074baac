-- The replies to a season's messages: what the stages together gave to each unit.
use Rattle.std.specs.Prelude.{ℕ, if◌then◌else◌, List, [], ◌∷◌, ◌++◌, length, take, drop, Option, Some, None, IfSome}
use Rattle.std.specs.List.{flat_map}
use Rattle.season_days.specs.Term.{Term}
use Rattle.scr_reader.specs.Messages.{header_of}
use Rattle.scr_reader.specs.Printed.{LineFits}
use Rattle.scr_reader.specs.declared.line.Line.{Line}
use Rattle.scr_reader.specs.declared.message.Message.{Message}
use Rattle.cert_format.specs.declared.cert.Certificate.{Certificate}
use Rattle.cert_format.specs.Choices.{choices_of}
use Rattle.series_model.specs.declared.unit.Unit.{Unit as SlotUnit}
use Rattle.series_model.specs.declared.times.Times.{Times}
use Rattle.series_model.specs.declared.times.Times.TheVariants.{Refused, At}
use Rattle.series_model.specs.declared.state.UnitState.{UnitState}
use Rattle.series_model.specs.Options.{line_times, are_same}
use Rattle.series_model.specs.TimedLines.{line_at, IsNear}
use Rattle.series_model.specs.Units.{message_units, UnitFits}
use Rattle.series_model.specs.Submissions.{SubmissionView}
use Rattle.series_model.specs.Stages.{states_after}
use Rattle.scr_replies.specs.Answers.{confirmed_answer, refused_answer, offer_answer, held_answer, message_reply}

-- ---- the answer to one unit, by what it was given last

-- other times than the requested ones: those of its historic line are held, all others offered
abbrev pub moved_answer : Term → Line → Option Line → Times → List ℕ
moved_answer season request None times = offer_answer season request (line_at request times)
moved_answer season request (Some historic) times =
    if are_same times (line_times historic) then held_answer season request historic
    else offer_answer season request (line_at request times)

-- slots at some times
abbrev pub slots_answer : Term → SlotUnit → Times → List ℕ
slots_answer season unit times =
    if are_same times (line_times unit.request) then confirmed_answer season unit.request
    else moved_answer season unit.request unit.historic times

-- a unit that was refused, or whose stage has no allotment or was not tried, has no slots
abbrev pub given_answer : Term → SlotUnit → Option Times → List ℕ
given_answer season unit None = refused_answer season unit.request
given_answer season unit (Some Refused) = refused_answer season unit.request
given_answer season unit (Some (At arrival departure)) =
    slots_answer season unit (At arrival departure)

abbrev pub unit_answer : Term → UnitState → List ℕ
unit_answer season state = given_answer season state.unit state.given

-- ---- the replies to messages

-- each message has the answers to its own units, in the order of their lines
abbrev pub replies_from : Term → List Message → List UnitState → List ℕ
replies_from season [] states = []
replies_from season (message ∷ messages) states =
    message_reply (header_of message)
    (flat_map (unit_answer season) (take (length (message_units message)) states))
    ++ replies_from season messages (drop (length (message_units message)) states)

-- the units after all stages of a certificate: a new entrant that stood again in stage 4 has what
-- that gave it
abbrev pub final_states : SubmissionView → Certificate → List UnitState
final_states s c = states_after s.declaration s.units (choices_of c)

-- the text of the replies to all messages, by the choices of a certificate
abbrev pub replies_text : SubmissionView → Certificate → List ℕ
replies_text s c = replies_from s.declaration.season s.messages (final_states s c)

-- ---- what the lines of an answer have

-- the unit's lines have a spelling, and so has its request at the times that it was given
pub record IsAnswerable (season : Term) (state : UnitState) : Type 0 where
  pub unit : UnitFits season state.unit
  pub given : IfSome state.given
      (λ times. LineFits season (line_at state.unit.request times) × IsNear times)
