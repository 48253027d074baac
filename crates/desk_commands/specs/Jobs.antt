-- What each job does, by cases: its steps, the files that it writes, its work, and its statuses.
use Rattle.std.specs.Prelude.{◌≡◌, ℕ, ◌+◌, ◌<◌, ◌≤◌, List, [], ◌∷◌, ◌++◌, length, map, codes}
use Rattle.std.specs.Prelude.{slice_index_or, Contains}
use Rattle.std.specs.Prelude.{Option}
use Rattle.std.specs.Fmt.{decimal}
use Rattle.season_days.specs.Term.{Term}
use Rattle.series_model.specs.Submissions.{SubmissionView}
use Rattle.cert_format.specs.declared.cert.Certificate.{Certificate}
use Rattle.cert_format.specs.declared.cert.StageCert.{StageCert}
use Rattle.wasg_stages.specs.Valid.{IsValid, MarksHold}
use Rattle.season_run.specs.Runs.{IsRun, IsEnoughFor}
use Rattle.scr_replies.specs.SeasonReplies.{replies_text}
use Rattle.season_maker.specs.Texts.{generated_capacity, generated_requests}
use Rattle.holding_book.specs.declared.answer.Entry.{Entry}
use Rattle.holding_book.specs.Starts.{start_book}
use Rattle.wait_list.specs.Claims.{IsWaitingProof}
use Rattle.desk_outside.specs.Files.{Files}
use Rattle.desk_disk.specs.Disks.{DiskView}
use Rattle.command_words.specs.Words.{Word}
use Rattle.desk_commands.specs.StageLines.{mark_lines, marks_status, node_total}
use Rattle.desk_commands.specs.Judgements.{NamedBytes, IsSeasonOf, SpellsCert, capacity_form}
use Rattle.desk_commands.specs.Judgements.{requests_form, certificate_form, valid_certificate}
use Rattle.desk_commands.specs.Judgements.{reports_form, next_season, SpellsExtra, waiting_limit}
use Rattle.desk_commands.specs.Judgements.{extra_form, valid_extra, capacity_cause, requests_cause}
use Rattle.desk_commands.specs.Amendments.{AmendsLegally, IsOneHistory}
use Rattle.desk_commands.specs.Reclearing.{IsAskedOf, last_book, left_waiting, waiting_text}
use Rattle.desk_commands.specs.Reclearing.{IsRecleared, StageIsProved}
use Rattle.desk_commands.specs.Services.{ServesLegally}
use Rattle.desk_commands.specs.Resumed.{ResumesLegally}
use Rattle.desk_commands.specs.Journals.{IsUnopened, IsDueJournal, TellsPairs}
use Rattle.desk_commands.specs.Outside.{OutsideChange, IsStill}
use Rattle.desk_commands.specs.Reports.{JournalRefusal}
use Rattle.desk_commands.specs.Usages.{IsWatched}
use Rattle.desk_commands.specs.Reasons.{IsReported}
use Rattle.desk_commands.specs.Inspections.{inspection_text}
use Rattle.usage_watch.specs.Reports.{SaysOperated}
use Rattle.usage_watch.specs.declared.operated.Operated.{Operated}
use Rattle.desk_commands.specs.Steps.{Step, reads, judges, names_read, Holds}
use Rattle.desk_commands.specs.declared.files.TheConstants.{LONGEST_FILE, LONGEST_CERT_FILE}
use Rattle.desk_commands.specs.declared.trial.TheConstants.{TRIAL_NODES}
use Rattle.command_words.specs.declared.job.Job.{Job}
use Rattle.command_words.specs.declared.job.Job.TheVariants.{Allocate, Check, Amend, Serve}
use Rattle.command_words.specs.declared.job.Job.TheVariants.{Resume, Usage, Reclear, Recheck}
use Rattle.command_words.specs.declared.job.Job.TheVariants.{Report, Inspect, Make, Trial}

-- the name of this number, counted from 0, in the order in which the command takes names
abbrev pub name_at : List Word → ℕ → Word
name_at names n = slice_index_or names n []

-- ---- steps

-- a season is read: the capacity file, and then the requests, each judged before the next is read
abbrev pub season_steps : List Word → List Step → List Step
season_steps names steps =
    reads (name_at names 0) LONGEST_FILE ∷ judges capacity_form (name_at names 0)
    ∷ reads (name_at names 1) LONGEST_FILE ∷ judges requests_form (name_at names 1) ∷ steps

-- a certificate of the season is read: its form is judged, and then whether it is valid
abbrev pub certificate_steps : List Word → List Step → List Step
certificate_steps names steps =
    reads (name_at names 2) LONGEST_CERT_FILE ∷ judges certificate_form (name_at names 2)
    ∷ judges valid_certificate (name_at names 2) ∷ steps

abbrev pub allocate_steps : List Word → List Step
allocate_steps names = season_steps names []

abbrev pub check_steps : List Word → List Step
check_steps names = season_steps names (certificate_steps names [])

-- behind a certificate that is valid the asks are read; whatever they are, they are answered
abbrev pub amend_steps : List Word → List Step
amend_steps names =
    season_steps names (certificate_steps names (reads (name_at names 3) LONGEST_FILE ∷ []))

-- behind a certificate that is valid clients are served; a journal is opened behind it, too
abbrev pub serve_steps : List Word → List Step
serve_steps names = check_steps names

-- behind a certificate that is valid reports are read and judged, and then whether a season follows
abbrev pub usage_steps : List Word → List Step
usage_steps names =
    season_steps names (certificate_steps names (reads (name_at names 3) LONGEST_FILE
    ∷ judges reports_form (name_at names 3) ∷ judges next_season (name_at names 3) ∷ []))

-- behind a certificate that is valid asks are read, and the lines that they leave waiting are
-- counted
abbrev pub waiting_steps : List Word → List Step → List Step
waiting_steps names steps =
    season_steps names (certificate_steps names (reads (name_at names 3) LONGEST_FILE
    ∷ judges waiting_limit (name_at names 3) ∷ steps))

abbrev pub reclear_steps : List Word → List Step
reclear_steps names = waiting_steps names []

-- and behind them one more stage is read: its form is judged, and then whether it is valid
abbrev pub recheck_steps : List Word → List Step
recheck_steps names =
    waiting_steps names (reads (name_at names 4) LONGEST_CERT_FILE
    ∷ judges extra_form (name_at names 4) ∷ judges valid_extra (name_at names 4) ∷ [])

-- a season is read as for the other commands, and a refusal says why
abbrev pub inspect_steps : List Word → List Step
inspect_steps names =
    reads (name_at names 0) LONGEST_FILE ∷ judges capacity_cause (name_at names 0)
    ∷ reads (name_at names 1) LONGEST_FILE ∷ judges requests_cause (name_at names 1) ∷ []

-- a generated season is not read
abbrev pub steps_of : Job → List Step
steps_of (Allocate names nodes workers) = allocate_steps names
steps_of (Check names) = check_steps names
steps_of (Amend names) = amend_steps names
steps_of (Serve names links port workers) = serve_steps names
steps_of (Resume names links port workers) = serve_steps names
steps_of (Usage names) = usage_steps names
steps_of (Reclear names nodes workers) = reclear_steps names
steps_of (Recheck names) = recheck_steps names
steps_of (Report names) = check_steps names
steps_of (Inspect names) = inspect_steps names
steps_of (Make number units names) = []
steps_of (Trial number units) = []

-- ---- the files that are written

abbrev pub names_written : Job → List Word
names_written (Allocate names nodes workers) = name_at names 2 ∷ name_at names 3 ∷ []
names_written (Check names) = []
names_written (Amend names) = name_at names 4 ∷ []
names_written (Serve names links port workers) = name_at names 3 ∷ []
names_written (Resume names links port workers) = name_at names 4 ∷ []
names_written (Usage names) = name_at names 4 ∷ []
names_written (Reclear names nodes workers) = name_at names 4 ∷ name_at names 5 ∷ []
names_written (Recheck names) = []
names_written (Report names) = name_at names 3 ∷ name_at names 4 ∷ []
names_written (Inspect names) = []
names_written (Make number units names) = name_at names 0 ∷ name_at names 1 ∷ []
names_written (Trial number units) = []

-- these files are those that the job reads, and those that it writes, by their names and in order
pub record AreFilesOf (job : Job) (inputs writes : List NamedBytes) : Type 0 where
  pub read : map (λ (file : NamedBytes). file.name) inputs ≡ names_read (steps_of job)
  pub written : map (λ (file : NamedBytes). file.name) writes ≡ names_written job

-- ---- the statuses of a job whose work is done

-- where stages were searched, one may be INFEASIBLE, or OPEN
abbrev pub searched_statuses : List ℕ
searched_statuses = 0 ∷ 8 ∷ 9 ∷ []

-- the stage of a waiting list is never INFEASIBLE, since each line may be refused
abbrev pub recleared_statuses : List ℕ
recleared_statuses = 0 ∷ 9 ∷ []

-- where clients were served, a door may have failed, or the history have been full
abbrev pub served_statuses : List ℕ
served_statuses = 0 ∷ 10 ∷ 11 ∷ []

-- and where a journal was kept, its disk may have failed
abbrev pub resumed_statuses : List ℕ
resumed_statuses = 0 ∷ 10 ∷ 11 ∷ 14 ∷ []

-- all of these
abbrev pub finished_statuses : List ℕ
finished_statuses = 0 ∷ 8 ∷ 9 ∷ 10 ∷ 11 ∷ 14 ∷ []

-- these, that of a journal that was not opened, and that at which no season follows: no call of the
-- cabinet or of the output failed
abbrev pub calm_statuses : List ℕ
calm_statuses = 0 ∷ 8 ∷ 9 ∷ 10 ∷ 11 ∷ 14 ∷ 13 ∷ 15 ∷ []

abbrev pub finishing_of : Job → List ℕ
finishing_of (Allocate names nodes workers) = searched_statuses
finishing_of (Check names) = 0 ∷ []
finishing_of (Amend names) = 0 ∷ []
finishing_of (Serve names links port workers) = served_statuses
finishing_of (Resume names links port workers) = resumed_statuses
finishing_of (Usage names) = 0 ∷ []
finishing_of (Reclear names nodes workers) = recleared_statuses
finishing_of (Recheck names) = 0 ∷ []
finishing_of (Report names) = 0 ∷ []
finishing_of (Inspect names) = 0 ∷ []
finishing_of (Make number units names) = 0 ∷ []
finishing_of (Trial number units) = searched_statuses

-- ---- the work

-- one file, under the name of this number
abbrev pub one_file : List Word → ℕ → List ℕ → List NamedBytes
one_file names place bytes = record { name = name_at names place; bytes = bytes } ∷ []

-- two files in the order in which they are written, the first under the name of this number
abbrev pub two_files : List Word → ℕ → List ℕ → List ℕ → List NamedBytes
two_files names place one two =
    record { name = name_at names place; bytes = one }
    ∷ record { name = name_at names (place + 1); bytes = two } ∷ []

-- no stage is OPEN
abbrev pub IsSettledStatus : ℕ → Type 0
IsSettledStatus status = Contains (0 ∷ 8 ∷ []) status

-- A season was run with a budget of nodes for each stage: one certificate of that run is spelled,
-- in at most as many bytes as are read of one; the replies are given by its choices, the lines are
-- those of its stages, and so is the status. It is 0 or 8 where the budget is enough for each
-- stage.
pub record IsRunOutput (s : SubmissionView) (nodes : ℕ) (certificate replies : List ℕ) (status : ℕ)
    (text : List ℕ) : Type 0 where
  pub proved : Certificate
  pub run : IsRun s nodes proved
  pub spelled : SpellsCert certificate proved
  pub short : length certificate ≤ LONGEST_CERT_FILE
  pub replied : replies ≡ replies_text s proved
  pub printed : text ≡ mark_lines 1 proved.stages
  pub status_is : status ≡ marks_status proved.stages
  pub settled : IsEnoughFor s nodes proved → IsSettledStatus status

-- The season of the two files that were read was run, and the certificate is written before the
-- replies.
pub record IsAllocation (names : List Word) (nodes : ℕ) (capacity requests : List ℕ)
    (writes : List NamedBytes) (status : ℕ) (text : List ℕ) : Type 0 where
  pub season : SubmissionView
  pub certificate : List ℕ
  pub replies : List ℕ
  pub made : IsSeasonOf capacity requests season
  pub output : IsRunOutput season nodes certificate replies status text
  pub written : writes ≡ two_files names 2 certificate replies

-- The certificate that was read is valid for the season, and the asks are answered one after the
-- other, from the book with the slots that it gives.
pub record IsAmendment (names : List Word) (capacity requests certificate asks : List ℕ)
    (writes : List NamedBytes) (status : ℕ) (text : List ℕ) : Type 0 where
  pub season : SubmissionView
  pub proved : Certificate
  pub answers : List ℕ
  pub made : IsSeasonOf capacity requests season
  pub spelled : SpellsCert certificate proved
  pub valid : IsValid season proved
  pub output : AmendsLegally (start_book season proved) asks answers text
  pub written : writes ≡ one_file names 4 answers
  pub status_is : status ≡ 0

-- The certificate that was read is valid for the season, and clients are served from the book with
-- the slots that it gives.
pub record IsService (names : List Word) (links : ℕ) (capacity requests certificate : List ℕ)
    (writes : List NamedBytes) (change : OutsideChange) (status : ℕ) (text : List ℕ) : Type 0 where
  pub season : SubmissionView
  pub proved : Certificate
  pub recorded : List ℕ
  pub made : IsSeasonOf capacity requests season
  pub spelled : SpellsCert certificate proved
  pub valid : IsValid season proved
  pub output : ServesLegally (start_book season proved) links change.before.doors
      change.after.doors recorded status text
  pub written : writes ≡ one_file names 3 recorded
  pub disk : change.after.disk ≡ change.before.disk

-- The same with a journal, which was opened in the season.
pub record IsResumption (names : List Word) (links : ℕ)
    (capacity requests certificate : List ℕ) (writes : List NamedBytes) (change : OutsideChange)
    (status : ℕ) (text : List ℕ) : Type 0 where
  pub season : SubmissionView
  pub proved : Certificate
  pub recorded : List ℕ
  pub made : IsSeasonOf capacity requests season
  pub year : season.declaration.season.year < 100
  pub spelled : SpellsCert certificate proved
  pub valid : IsValid season proved
  pub output : ResumesLegally (start_book season proved) links change recorded status text
  pub written : writes ≡ one_file names 4 recorded

-- The certificate that was read is valid for the season, and what was operated of the slots that it
-- gives is what the reports say.
pub record IsUsage (names : List Word) (capacity requests certificate operated : List ℕ)
    (writes : List NamedBytes) (status : ℕ) (text : List ℕ) : Type 0 where
  pub season : SubmissionView
  pub proved : Certificate
  pub reports : List Operated
  pub next : List ℕ
  pub made : IsSeasonOf capacity requests season
  pub spelled : SpellsCert certificate proved
  pub valid : IsValid season proved
  pub said : SaysOperated season.declaration.season operated reports
  pub output : IsWatched season (start_book season proved) reports next text
  pub written : writes ≡ one_file names 4 next
  pub status_is : status ≡ 0

-- The certificate that was read is valid for the season, the asks are answered from the book with
-- the slots that it gives, and the lines that wait after them are searched; the stage is written
-- before the replies.
pub record IsReclearing (names : List Word) (nodes : ℕ)
    (capacity requests certificate asks : List ℕ) (writes : List NamedBytes) (status : ℕ)
    (text : List ℕ) : Type 0 where
  pub season : SubmissionView
  pub proved : Certificate
  pub extra : List ℕ
  pub replies : List ℕ
  pub made : IsSeasonOf capacity requests season
  pub spelled : SpellsCert certificate proved
  pub valid : IsValid season proved
  pub output : IsRecleared season proved asks nodes extra replies status text
  pub written : writes ≡ two_files names 4 extra replies

-- The stage that was read has a proof on the problem of the lines that wait after the asks.
pub record IsRechecking (capacity requests certificate asks extra : List ℕ)
    (writes : List NamedBytes) (status : ℕ) (text : List ℕ) : Type 0 where
  pub season : SubmissionView
  pub proved : Certificate
  pub history : List Entry
  pub stage : StageCert
  pub made : IsSeasonOf capacity requests season
  pub spelled : SpellsCert certificate proved
  pub valid : IsValid season proved
  pub asked : IsAskedOf season proved asks history
  pub one : IsOneHistory (start_book season proved) history
  pub said : SpellsExtra extra stage
  pub proof : IsWaitingProof (last_book season proved history) (left_waiting season proved history)
      stage
  pub written : writes ≡ []
  pub printed : text ≡ codes "YES\n"
  pub status_is : status ≡ 0

-- The certificate that was read is valid for the season. The report on it is written before the
-- page of that report.
pub record IsReporting (names : List Word) (capacity requests certificate : List ℕ)
    (writes : List NamedBytes) (status : ℕ) (text : List ℕ) : Type 0 where
  pub season : SubmissionView
  pub proved : Certificate
  pub report : List ℕ
  pub page : List ℕ
  pub made : IsSeasonOf capacity requests season
  pub spelled : SpellsCert certificate proved
  pub valid : IsValid season proved
  pub output : IsReported season proved report page text
  pub written : writes ≡ two_files names 3 report page
  pub status_is : status ≡ 0

-- What the two files hold is printed, and nothing is written.
pub record IsInspection (names : List Word) (capacity requests : List ℕ)
    (writes : List NamedBytes) (status : ℕ) (text : List ℕ) : Type 0 where
  pub season : SubmissionView
  pub made : IsSeasonOf capacity requests season
  pub written : writes ≡ []
  pub printed : text ≡ inspection_text season
  pub status_is : status ≡ 0

-- the capacity file of a generated season is written before its requests, and nothing is printed
pub record IsMade (number units : ℕ) (names : List Word) (writes : List NamedBytes) (status : ℕ)
    (text : List ℕ) : Type 0 where
  pub written : writes
      ≡ two_files names 0 (generated_capacity units) (generated_requests number units)
  pub status_is : status ≡ 0
  pub printed : text ≡ []

-- the lines of the stages, how many nodes their trees have together, and the verdict
abbrev pub trial_text : Certificate → List ℕ
trial_text c =
    mark_lines 1 c.stages
    ++ (codes "NODES " ++ (decimal (node_total c.stages) ++ codes "\nCHECK YES\n"))

-- a generated season was run in memory with 10,000 nodes for each stage, and its certificate, which
-- is valid, was checked
pub record IsTrial (number units : ℕ) (writes : List NamedBytes) (status : ℕ) (text : List ℕ) :
    Type 0 where
  pub season : SubmissionView
  pub proved : Certificate
  pub made : IsSeasonOf (generated_capacity units) (generated_requests number units) season
  pub run : IsRun season TRIAL_NODES proved
  pub valid : IsValid season proved
  pub written : writes ≡ []
  pub printed : text ≡ trial_text proved
  pub status_is : status ≡ marks_status proved.stages
  pub settled : IsEnoughFor season TRIAL_NODES proved → IsSettledStatus status

-- Of the files that were read, these are the writes, and the status and the text at the end. Jobs
-- that serve no client:
abbrev pub FileWorks : Job → List NamedBytes → List NamedBytes → ℕ → List ℕ → Type 0
FileWorks (Allocate names nodes workers) (capacity ∷ requests ∷ []) writes status text =
    IsAllocation names nodes capacity.bytes requests.bytes writes status text
FileWorks (Check names) (capacity ∷ requests ∷ certificate ∷ []) writes status text =
    (status ≡ 0) × (writes ≡ []) × (text ≡ codes "YES\n")
FileWorks (Amend names) (capacity ∷ requests ∷ certificate ∷ asks ∷ []) writes status text =
    IsAmendment names capacity.bytes requests.bytes certificate.bytes asks.bytes writes status text
FileWorks (Usage names) (capacity ∷ requests ∷ certificate ∷ operated ∷ []) writes status text =
    IsUsage names capacity.bytes requests.bytes certificate.bytes operated.bytes writes status text
FileWorks (Reclear names nodes workers) (capacity ∷ requests ∷ certificate ∷ asks ∷ []) writes
    status text =
    IsReclearing names nodes capacity.bytes requests.bytes certificate.bytes asks.bytes writes
    status text
FileWorks (Recheck names) (capacity ∷ requests ∷ certificate ∷ asks ∷ extra ∷ []) writes status
    text =
    IsRechecking capacity.bytes requests.bytes certificate.bytes asks.bytes extra.bytes writes
    status text
FileWorks (Report names) (capacity ∷ requests ∷ certificate ∷ []) writes status text =
    IsReporting names capacity.bytes requests.bytes certificate.bytes writes status text
FileWorks (Inspect names) (capacity ∷ requests ∷ []) writes status text =
    IsInspection names capacity.bytes requests.bytes writes status text
FileWorks (Make number units names) [] writes status text =
    IsMade number units names writes status text
FileWorks (Trial number units) [] writes status text = IsTrial number units writes status text
FileWorks job inputs writes status text = ⊥

-- and how a job that serves clients does so
abbrev pub ServiceWorks : List Word → ℕ → List NamedBytes → List NamedBytes → OutsideChange → ℕ
    → List ℕ → Type 0
ServiceWorks names links (capacity ∷ requests ∷ certificate ∷ []) writes change status text =
    IsService names links capacity.bytes requests.bytes certificate.bytes writes change status text
ServiceWorks names links inputs writes change status text = ⊥

abbrev pub ResumeWorks : List Word → ℕ → List NamedBytes → List NamedBytes → OutsideChange → ℕ
    → List ℕ → Type 0
ResumeWorks names links (capacity ∷ requests ∷ certificate ∷ []) writes change status text =
    IsResumption names links capacity.bytes requests.bytes certificate.bytes writes change status
    text
ResumeWorks names links inputs writes change status text = ⊥

-- Any job: one that serves no client leaves doors and disk as they are.
abbrev pub Works : Job → List NamedBytes → List NamedBytes → OutsideChange → ℕ → List ℕ → Type 0
Works (Allocate names nodes workers) inputs writes change status text =
    IsStill change × FileWorks (Allocate names nodes workers) inputs writes status text
Works (Check names) inputs writes change status text =
    IsStill change × FileWorks (Check names) inputs writes status text
Works (Amend names) inputs writes change status text =
    IsStill change × FileWorks (Amend names) inputs writes status text
Works (Serve names links port workers) inputs writes change status text =
    ServiceWorks names links inputs writes change status text
Works (Resume names links port workers) inputs writes change status text =
    ResumeWorks names links inputs writes change status text
Works (Usage names) inputs writes change status text =
    IsStill change × FileWorks (Usage names) inputs writes status text
Works (Reclear names nodes workers) inputs writes change status text =
    IsStill change × FileWorks (Reclear names nodes workers) inputs writes status text
Works (Recheck names) inputs writes change status text =
    IsStill change × FileWorks (Recheck names) inputs writes status text
Works (Report names) inputs writes change status text =
    IsStill change × FileWorks (Report names) inputs writes status text
Works (Inspect names) inputs writes change status text =
    IsStill change × FileWorks (Inspect names) inputs writes status text
Works (Make number units names) inputs writes change status text =
    IsStill change × FileWorks (Make number units names) inputs writes status text
Works (Trial number units) inputs writes change status text =
    IsStill change × FileWorks (Trial number units) inputs writes status text

-- ---- a journal that was not opened

-- the season of the two texts, in which a journal is opened
pub record IsSeasonTerm (capacity requests : List ℕ) (season : Term) : Type 0 where
  pub submission : SubmissionView
  pub made : IsSeasonOf capacity requests submission
  pub term : season ≡ submission.declaration.season

-- The journal was not opened in the season of what was read, and no client was served.
pub record IsJournalless (capacity requests : List ℕ) (change : OutsideChange)
    (why : JournalRefusal) : Type 0 where
  pub season : Term
  pub is : IsSeasonTerm capacity requests season
  pub year : season.year < 100
  pub doors : change.after.doors ≡ change.before.doors
  pub refused : IsUnopened season why change.before.disk change.after.disk

-- of the jobs, one alone has a journal
abbrev pub IsWithoutJournal : Job → List NamedBytes → OutsideChange → JournalRefusal → Type 0
IsWithoutJournal (Resume names links port workers) (capacity ∷ requests ∷ certificate ∷ []) change
    why = IsJournalless capacity.bytes requests.bytes change why
IsWithoutJournal job inputs change why = ⊥

-- what the disk tells of the journal of a job, by the files that were read: why it is refused, and
-- that it stands for pairs
abbrev pub JournalDue : Job → List NamedBytes → Option DiskView → JournalRefusal → Type 0
JournalDue (Resume names links port workers) (capacity ∷ requests ∷ certificate ∷ []) disk why =
    IsDueJournal (IsSeasonTerm capacity.bytes requests.bytes) disk why
JournalDue job inputs disk why = ⊥

abbrev pub JournalStands : Job → List NamedBytes → Option DiskView → Type 0
JournalStands (Resume names links port workers) (capacity ∷ requests ∷ certificate ∷ []) disk =
    TellsPairs (IsSeasonTerm capacity.bytes requests.bytes) disk
JournalStands job inputs disk = ⊥

-- ---- a check of what was written

-- the season of an allocation and the certificate that it wrote, under the names of a check
abbrev pub checked_files : List Word → List ℕ → List ℕ → List ℕ → List NamedBytes
checked_files names capacity requests certificate =
    record { name = name_at names 0; bytes = capacity }
    ∷ record { name = name_at names 1; bytes = requests }
    ∷ record { name = name_at names 2; bytes = certificate } ∷ []

-- where files are told, these are held under the names of a check
pub record HoldsChecked (files : Option Files) (names : List Word)
    (capacity requests certificate : List ℕ) : Type 0 where
  pub first : Holds files (name_at names 0) capacity
  pub second : Holds files (name_at names 1) requests
  pub third : Holds files (name_at names 2) certificate

-- the files of a waiting list and the stage that was written of it, under the names of a recheck
abbrev pub rechecked_files : List Word → List ℕ → List ℕ → List ℕ → List ℕ → List ℕ →
    List NamedBytes
rechecked_files names capacity requests certificate asks extra =
    record { name = name_at names 0; bytes = capacity }
    ∷ record { name = name_at names 1; bytes = requests }
    ∷ record { name = name_at names 2; bytes = certificate }
    ∷ record { name = name_at names 3; bytes = asks }
    ∷ record { name = name_at names 4; bytes = extra } ∷ []

-- where files are told, these are held under the names of a recheck
pub record HoldsRechecked (files : Option Files) (names : List Word)
    (capacity requests certificate asks extra : List ℕ) : Type 0 where
  pub first : Holds files (name_at names 0) capacity
  pub second : Holds files (name_at names 1) requests
  pub third : Holds files (name_at names 2) certificate
  pub fourth : Holds files (name_at names 3) asks
  pub fifth : Holds files (name_at names 4) extra

-- ---- the headline

-- The certificate is valid for the season that the two texts make, and what its marks say is so:
-- each stage marked OPTIMAL has a feasible allotment and none displaces less, each marked
-- INFEASIBLE has none, and no allotment of one marked OPEN displaces less than its bound; each
-- given the allotments of the stages before it.
pub record MarksAreProved (capacity requests : List ℕ) (s : SubmissionView) (c : Certificate) :
    Type 0 where
  pub made : IsSeasonOf capacity requests s
  pub valid : IsValid s c
  pub marks : MarksHold s c

-- The marks are true. Of `allocate`: of the certificate that is written, whose stage lines are
-- printed, for the season that was read. Of all other commands that read a certificate: of the one
-- that was read. Of `trial`: of the one whose lines are printed, for the generated season. `make`
-- proves nothing. And of `amend`: what is written are the answers of one legal history from the
-- certificate's book. Of `serve`: what is written is the text of such a history, by which each
-- worker answered the clients of its door. Of `resume`: the same, of the history that follows the
-- pairs of the journal; these, answered anew, and it are one legal history from the certificate's
-- book, and the journal keeps all of it. Of `usage`: what is written and printed is what the
-- certificate's book keeps, by the reports that were read. Of `reclear` and `recheck`: what the
-- stage that was written or read says of the lines that wait is so beside the book that the asks
-- left, which fits together with what is allotted. Of `report`: what is written is the report on
-- the certificate and the page of that report, and the tally of all units is printed. `inspect`
-- proves nothing of a certificate: what is printed are the counts of the season that the two files
-- make.
abbrev pub HeadlineHolds : Job → List NamedBytes → List NamedBytes → OutsideChange → ℕ → List ℕ
    → Type 0
HeadlineHolds (Allocate names nodes workers) (capacity ∷ requests ∷ [])
    (certificate ∷ replies ∷ []) change status text =
    (s : SubmissionView) × (c : Certificate) × SpellsCert certificate.bytes c
    × (text ≡ mark_lines 1 c.stages) × MarksAreProved capacity.bytes requests.bytes s c
HeadlineHolds (Check names) (capacity ∷ requests ∷ certificate ∷ []) [] change status text =
    (s : SubmissionView) × (c : Certificate) × SpellsCert certificate.bytes c
    × MarksAreProved capacity.bytes requests.bytes s c
HeadlineHolds (Amend names) (capacity ∷ requests ∷ certificate ∷ asks ∷ []) (answers ∷ []) change
    status text =
    (s : SubmissionView) × (c : Certificate) × SpellsCert certificate.bytes c
    × MarksAreProved capacity.bytes requests.bytes s c
    × AmendsLegally (start_book s c) asks.bytes answers.bytes text
HeadlineHolds (Serve names links port workers) (capacity ∷ requests ∷ certificate ∷ [])
    (recorded ∷ []) change status text =
    (s : SubmissionView) × (c : Certificate) × SpellsCert certificate.bytes c
    × MarksAreProved capacity.bytes requests.bytes s c
    × ServesLegally (start_book s c) links change.before.doors change.after.doors recorded.bytes
    status text
HeadlineHolds (Resume names links port workers) (capacity ∷ requests ∷ certificate ∷ [])
    (recorded ∷ []) change status text =
    (s : SubmissionView) × (c : Certificate) × SpellsCert certificate.bytes c
    × MarksAreProved capacity.bytes requests.bytes s c
    × ResumesLegally (start_book s c) links change recorded.bytes status text
HeadlineHolds (Usage names) (capacity ∷ requests ∷ certificate ∷ operated ∷ []) (next ∷ []) change
    status text =
    (s : SubmissionView) × (c : Certificate) × SpellsCert certificate.bytes c
    × MarksAreProved capacity.bytes requests.bytes s c
    × (reports : List Operated) × SaysOperated s.declaration.season operated.bytes reports
    × IsWatched s (start_book s c) reports next.bytes text
HeadlineHolds (Reclear names nodes workers) (capacity ∷ requests ∷ certificate ∷ asks ∷ [])
    (extra ∷ replies ∷ []) change status text =
    (s : SubmissionView) × (c : Certificate) × SpellsCert certificate.bytes c
    × MarksAreProved capacity.bytes requests.bytes s c
    × (history : List Entry) × (stage : StageCert) × SpellsExtra extra.bytes stage
    × StageIsProved s c asks.bytes history stage
    × (text ≡ waiting_text (length (left_waiting s c history)) stage)
HeadlineHolds (Recheck names) (capacity ∷ requests ∷ certificate ∷ asks ∷ extra ∷ []) [] change
    status text =
    (s : SubmissionView) × (c : Certificate) × SpellsCert certificate.bytes c
    × MarksAreProved capacity.bytes requests.bytes s c
    × (history : List Entry) × (stage : StageCert) × SpellsExtra extra.bytes stage
    × StageIsProved s c asks.bytes history stage
HeadlineHolds (Report names) (capacity ∷ requests ∷ certificate ∷ []) (report ∷ page ∷ []) change
    status text =
    (s : SubmissionView) × (c : Certificate) × SpellsCert certificate.bytes c
    × MarksAreProved capacity.bytes requests.bytes s c
    × IsReported s c report.bytes page.bytes text
HeadlineHolds (Inspect names) (capacity ∷ requests ∷ []) [] change status text =
    (s : SubmissionView) × IsSeasonOf capacity.bytes requests.bytes s × (text ≡ inspection_text s)
HeadlineHolds (Make number units names) inputs writes change status text = Unit {0}
HeadlineHolds (Trial number units) [] [] change status text =
    (s : SubmissionView) × (c : Certificate) × (text ≡ trial_text c)
    × MarksAreProved (generated_capacity units) (generated_requests number units) s c
HeadlineHolds job inputs writes change status text = ⊥
