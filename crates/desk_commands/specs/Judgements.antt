-- What the files that a command has read are judged to be, and what is refused of them. Each
-- judgement speaks of the bytes that were handed out so far, in the order of the reads.
use Rattle.std.specs.Prelude.{◌≡◌, ◌≢◌, ◌⊎◌, ℕ, ◌+◌, ◌<◌, ◌≤◌, List, ◌∷◌, length, Ok, Err, codes}
use Rattle.slot_text.specs.Forms.{IsFirstBadLine}
use Rattle.slot_text.specs.Lines.{lines_of}
use Rattle.season_days.specs.declared.declaration.Declaration.{Declaration}
use Rattle.capacity_file.specs.Declares.{IsCapacityFile}
use Rattle.capacity_file.specs.Faults.{HasCapacityFault}
use Rattle.capacity_file.specs.Texts.{cap_limit_text}
use Rattle.capacity_file.specs.declared.fault.CapFault.{CapFault}
use Rattle.capacity_file.specs.declared.fault.CapFault.TheVariants as capacity_fault
use Rattle.scr_reader.specs.Messages.{ReadsAll, HasScrFault}
use Rattle.scr_reader.specs.declared.message.Message.{Message}
use Rattle.scr_reader.specs.declared.fault.ScrFault.{ScrFault}
use Rattle.scr_reader.specs.declared.fault.ScrFault.TheVariants as message_fault
use Rattle.series_model.specs.Submissions.{SubmissionView, submission_answer}
use Rattle.series_model.specs.declared.fault.ModelFault.{ModelFault}
use Rattle.series_model.specs.declared.fault.ModelFault.TheVariants as model_fault
use Rattle.cert_format.specs.Forms.{IsCertText, IsExtraText}
use Rattle.cert_format.specs.declared.cert.StageCert.{StageCert}
use Rattle.cert_format.specs.declared.cert.Certificate.{Certificate}
use Rattle.wasg_stages.specs.Valid.{IsValid}
use Rattle.cert_checker.specs.Certificates.{FailsAt}
use Rattle.cert_checker.specs.declared.verdict.Reason.{Reason}
use Rattle.choice_problem.specs.declared.problems.TheConstants.{MOST_UNITS}
use Rattle.holding_book.specs.declared.answer.Entry.{Entry}
use Rattle.wait_list.specs.Claims.{IsWaitingProof, WaitingFailsAt}
use Rattle.usage_watch.specs.Reports.{SaysOperated, HasOperatedFault}
use Rattle.usage_watch.specs.declared.operated.Operated.{Operated}
use Rattle.usage_watch.specs.declared.fault.OperatedFault.TheVariants as operated_fault
use Rattle.command_words.specs.Words.{Word}
use Rattle.fault_causes.specs.Capacities.{IsCapacityCause}
use Rattle.fault_causes.specs.Requests.{IsMessageCause, IsSubmissionCause}
use Rattle.fault_causes.specs.declared.cause.Cause.{Cause}
use Rattle.desk_commands.specs.Reports.{Refusal, out_of_form, over_limit, not_valid, no_next}
use Rattle.desk_commands.specs.Reports.{extra_fails, with_cause}
use Rattle.desk_commands.specs.Reclearing.{IsAskedOf, last_book, left_waiting}
pub use Rattle.desk_commands.specs.Spelled.{SpellsCert, SpellsExtra}

-- the name of a file, and bytes that were read from it or are written to it
pub record NamedBytes : Type 0 where
  pub name : Word
  pub bytes : List ℕ

-- ---- what the bytes of files are

-- the season of a capacity file and of requests: the declaration that the one makes, and the
-- submission that the messages of the other make under it
pub record IsSeasonOf (capacity requests : List ℕ) (s : SubmissionView) : Type 0 where
  pub messages : List Message
  pub declared : IsCapacityFile capacity s.declaration
  pub read : ReadsAll requests messages
  pub made : submission_answer s.declaration messages ≡ Ok s

-- ---- judgements, in the order in which commands make them

-- capacity_form: a capacity file. requests_form: messages that make a submission under it.
-- certificate_form: a certificate. valid_certificate: it is valid for the submission. reports_form:
-- reports of what was operated in the season. next_season: there is a season of the same half one
-- year later. waiting_limit: no more lines wait after asks than a stage may have units. extra_form:
-- one more stage. valid_extra: no line of it fails, on the problem of the lines that wait.
-- capacity_cause, requests_cause: as capacity_form and requests_form, and a refusal says why.
pub data Judgement : Type 0 where
  capacity_form : Judgement
  requests_form : Judgement
  certificate_form : Judgement
  valid_certificate : Judgement
  reports_form : Judgement
  next_season : Judgement
  waiting_limit : Judgement
  extra_form : Judgement
  valid_extra : Judgement
  capacity_cause : Judgement
  requests_cause : Judgement

-- the files that were read are so: the capacity file is the first, the requests are the second, the
-- certificate is the third, reports or asks are the fourth, and one more stage is the fifth
abbrev pub Accepts : Judgement → List NamedBytes → Type 0
Accepts capacity_form (capacity ∷ rest) = (d : Declaration) × IsCapacityFile capacity.bytes d
Accepts requests_form (capacity ∷ requests ∷ rest) =
    (s : SubmissionView) × IsSeasonOf capacity.bytes requests.bytes s
Accepts certificate_form (capacity ∷ requests ∷ certificate ∷ rest) =
    (c : Certificate) × SpellsCert certificate.bytes c
Accepts valid_certificate (capacity ∷ requests ∷ certificate ∷ rest) =
    (s : SubmissionView) × (c : Certificate) × IsSeasonOf capacity.bytes requests.bytes s
    × SpellsCert certificate.bytes c × IsValid s c
Accepts reports_form (capacity ∷ requests ∷ certificate ∷ operated ∷ rest) =
    (d : Declaration) × (reports : List Operated) × IsCapacityFile capacity.bytes d
    × SaysOperated d.season operated.bytes reports
Accepts next_season (capacity ∷ rest) =
    (d : Declaration) × IsCapacityFile capacity.bytes d × (d.season.year ≢ 99)
Accepts waiting_limit (capacity ∷ requests ∷ certificate ∷ asks ∷ rest) =
    (s : SubmissionView) × (c : Certificate) × (history : List Entry)
    × IsSeasonOf capacity.bytes requests.bytes s × SpellsCert certificate.bytes c
    × IsAskedOf s c asks.bytes history × (length (left_waiting s c history) ≤ MOST_UNITS)
Accepts extra_form (capacity ∷ requests ∷ certificate ∷ asks ∷ extra ∷ rest) =
    (stage : StageCert) × SpellsExtra extra.bytes stage
Accepts valid_extra (capacity ∷ requests ∷ certificate ∷ asks ∷ extra ∷ rest) =
    (s : SubmissionView) × (c : Certificate) × (history : List Entry) × (stage : StageCert)
    × IsSeasonOf capacity.bytes requests.bytes s × SpellsCert certificate.bytes c
    × IsAskedOf s c asks.bytes history × SpellsExtra extra.bytes stage
    × IsWaitingProof (last_book s c history) (left_waiting s c history) stage
Accepts capacity_cause (capacity ∷ rest) = (d : Declaration) × IsCapacityFile capacity.bytes d
Accepts requests_cause (capacity ∷ requests ∷ rest) =
    (s : SubmissionView) × IsSeasonOf capacity.bytes requests.bytes s
Accepts judgement read = ⊥

-- ---- refusals, each with the name of the file, as the words give it

-- a missing line has the place after the last one of so many
abbrev pub IsCapacityRefusal : Word → ℕ → CapFault → Refusal → Type 0
IsCapacityRefusal name lines (capacity_fault.BadLine line) refusal = refusal ≡ out_of_form name line
IsCapacityRefusal name lines (capacity_fault.Missing word) refusal =
    refusal ≡ out_of_form name (lines + 1)
IsCapacityRefusal name lines (capacity_fault.Twice line) refusal = refusal ≡ out_of_form name line
IsCapacityRefusal name lines (capacity_fault.OverLimit limit number) refusal =
    refusal ≡ over_limit (cap_limit_text limit) number
IsCapacityRefusal name lines capacity_fault.Memory refusal = ⊥

abbrev pub IsMessageRefusal : Word → ScrFault → Refusal → Type 0
IsMessageRefusal name (message_fault.BadLine line field) refusal = refusal ≡ out_of_form name line
IsMessageRefusal name (message_fault.BadHeader line) refusal = refusal ≡ out_of_form name line
IsMessageRefusal name (message_fault.Unpaired line) refusal = refusal ≡ out_of_form name line
IsMessageRefusal name (message_fault.TooLong line) refusal = refusal ≡ out_of_form name line
IsMessageRefusal name message_fault.Memory refusal = ⊥

abbrev pub IsSubmissionRefusal : Word → ModelFault → Refusal → Type 0
IsSubmissionRefusal name (model_fault.OtherSeason line) refusal = refusal ≡ out_of_form name line
IsSubmissionRefusal name (model_fault.OtherAirport line) refusal = refusal ≡ out_of_form name line
IsSubmissionRefusal name (model_fault.NotInitial line) refusal = refusal ≡ out_of_form name line
IsSubmissionRefusal name (model_fault.TooMany units) refusal =
    refusal ≡ over_limit (codes "UNITS") units
IsSubmissionRefusal name model_fault.Memory refusal = ⊥

-- the capacity file's first fault
abbrev pub RefusesCapacity : Word → List ℕ → Refusal → Type 0
RefusesCapacity name bytes refusal =
    (fault : CapFault) × HasCapacityFault bytes fault
    × IsCapacityRefusal name (length (lines_of bytes)) fault refusal

-- the messages' lowest bad line; or where there is none, why they make no submission
abbrev pub RefusesRequests : Word → List ℕ → List ℕ → Refusal → Type 0
RefusesRequests name capacity requests refusal =
    ((fault : ScrFault) × HasScrFault requests fault × IsMessageRefusal name fault refusal)
    ⊎ ((d : Declaration) × (messages : List Message) × (fault : ModelFault)
    × IsCapacityFile capacity d × ReadsAll requests messages
    × (submission_answer d messages ≡ Err fault) × IsSubmissionRefusal name fault refusal)

-- the first failing line, and its first reason
abbrev pub RefusesCertificate : List ℕ → List ℕ → List ℕ → Refusal → Type 0
RefusesCertificate capacity requests certificate refusal =
    (s : SubmissionView) × (c : Certificate) × (line : ℕ) × (reason : Reason)
    × IsSeasonOf capacity requests s × SpellsCert certificate c × FailsAt s c line reason
    × (refusal ≡ not_valid line reason)

-- so many lines wait
abbrev pub RefusesWaiting : List ℕ → List ℕ → List ℕ → List ℕ → Refusal → Type 0
RefusesWaiting capacity requests certificate asks refusal =
    (s : SubmissionView) × (c : Certificate) × (history : List Entry)
    × IsSeasonOf capacity requests s × SpellsCert certificate c × IsAskedOf s c asks history
    × (MOST_UNITS < length (left_waiting s c history))
    × (refusal ≡ over_limit (codes "WAITING") (length (left_waiting s c history)))

-- the first failing line of the stage, and its first reason
abbrev pub RefusesExtra : List ℕ → List ℕ → List ℕ → List ℕ → List ℕ → Refusal → Type 0
RefusesExtra capacity requests certificate asks extra refusal =
    (s : SubmissionView) × (c : Certificate) × (history : List Entry) × (stage : StageCert)
    × (line : ℕ) × (reason : Reason)
    × IsSeasonOf capacity requests s × SpellsCert certificate c × IsAskedOf s c asks history
    × SpellsExtra extra stage
    × WaitingFailsAt (last_book s c history) (left_waiting s c history) stage line reason
    × (refusal ≡ extra_fails line reason)

-- the same two, each with its cause
abbrev pub CausesCapacity : Word → List ℕ → Refusal → Type 0
CausesCapacity name bytes refusal =
    (fault : CapFault) × (plain : Refusal) × (cause : Cause) × HasCapacityFault bytes fault
    × IsCapacityRefusal name (length (lines_of bytes)) fault plain
    × IsCapacityCause bytes fault cause × (refusal ≡ with_cause plain cause)

abbrev pub CausesMessage : Word → List ℕ → Refusal → Type 0
CausesMessage name requests refusal =
    (fault : ScrFault) × (plain : Refusal) × (cause : Cause) × HasScrFault requests fault
    × IsMessageRefusal name fault plain × IsMessageCause requests fault cause
    × (refusal ≡ with_cause plain cause)

abbrev pub CausesSubmission : Word → List ℕ → List ℕ → Refusal → Type 0
CausesSubmission name capacity requests refusal =
    (d : Declaration) × (messages : List Message) × (fault : ModelFault) × (plain : Refusal)
    × (cause : Cause) × IsCapacityFile capacity d × ReadsAll requests messages
    × (submission_answer d messages ≡ Err fault) × IsSubmissionRefusal name fault plain
    × IsSubmissionCause requests fault cause × (refusal ≡ with_cause plain cause)

-- the files that were read are refused with this
abbrev pub Refuses : Judgement → Word → List NamedBytes → Refusal → Type 0
Refuses capacity_form name (capacity ∷ rest) refusal = RefusesCapacity name capacity.bytes refusal
Refuses requests_form name (capacity ∷ requests ∷ rest) refusal =
    RefusesRequests name capacity.bytes requests.bytes refusal
Refuses certificate_form name (capacity ∷ requests ∷ certificate ∷ rest) refusal =
    (line : ℕ) × IsFirstBadLine IsCertText certificate.bytes line
    × (refusal ≡ out_of_form name line)
Refuses valid_certificate name (capacity ∷ requests ∷ certificate ∷ rest) refusal =
    RefusesCertificate capacity.bytes requests.bytes certificate.bytes refusal
Refuses reports_form name (capacity ∷ requests ∷ certificate ∷ operated ∷ rest) refusal =
    (d : Declaration) × (line : ℕ) × IsCapacityFile capacity.bytes d
    × HasOperatedFault d.season operated.bytes (operated_fault.BadLine line)
    × (refusal ≡ out_of_form name line)
Refuses next_season name (capacity ∷ rest) refusal =
    (d : Declaration) × IsCapacityFile capacity.bytes d × (d.season.year ≡ 99)
    × (refusal ≡ no_next)
Refuses waiting_limit name (capacity ∷ requests ∷ certificate ∷ asks ∷ rest) refusal =
    RefusesWaiting capacity.bytes requests.bytes certificate.bytes asks.bytes refusal
Refuses extra_form name (capacity ∷ requests ∷ certificate ∷ asks ∷ extra ∷ rest) refusal =
    (line : ℕ) × IsFirstBadLine IsExtraText extra.bytes line
    × (refusal ≡ out_of_form name line)
Refuses valid_extra name (capacity ∷ requests ∷ certificate ∷ asks ∷ extra ∷ rest) refusal =
    RefusesExtra capacity.bytes requests.bytes certificate.bytes asks.bytes extra.bytes refusal
Refuses capacity_cause name (capacity ∷ rest) refusal = CausesCapacity name capacity.bytes refusal
Refuses requests_cause name (capacity ∷ requests ∷ rest) refusal =
    CausesMessage name requests.bytes refusal
    ⊎ CausesSubmission name capacity.bytes requests.bytes refusal
Refuses judgement name read refusal = ⊥
