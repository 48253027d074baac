-- How a command ends: what it reports, why, what passed between it and the cabinet, which files it
-- leaves, and how it leaves what else is outside.
use Rattle.std.specs.Prelude.{◌≡◌, ◌≢◌, ℕ, List, [], ◌∷◌, ◌++◌, map, Option, Some, None, All}
use Rattle.std.specs.Prelude.{Contains}
use Rattle.desk_outside.specs.Cause.{Rose}
use Rattle.desk_outside.specs.Files.{Files}
use Rattle.desk_outside.specs.Passages.{Passage, read, wrote, write_failed, took, put, put_failed}
use Rattle.command_words.specs.Words.{Word}
use Rattle.desk_commands.specs.Reports.{Report, Refusal, no_command, refused, unread, unwritten}
use Rattle.desk_commands.specs.Reports.{finished, unopened, JournalRefusal, refusal_status}
use Rattle.desk_commands.specs.Judgements.{NamedBytes}
use Rattle.desk_commands.specs.Steps.{names_read, AllPass, RefuseFrom, ReachFrom}
use Rattle.desk_commands.specs.Writing.{read_of, written_of, AreWritten, StopsAt}
use Rattle.desk_commands.specs.Jobs.{steps_of, names_written, Works, IsWithoutJournal}
use Rattle.desk_commands.specs.Outside.{OutsideChange, IsStill}
use Rattle.command_words.specs.declared.job.Job.{Job}
use Rattle.command_words.specs.declared.job.Job.TheVariants.{Serve, Resume}

-- what contracts see of a cabinet: its files, where they are told, the count of its faults, and
-- what passed so far
pub record World : Type 0 where
  pub files : Option Files
  pub faults : ℕ
  pub log : List Passage

-- the view of a cabinet, from what it tells
abbrev pub world_of : {C : Type 0} → (C → Option Files) → (C → ℕ) → (C → List Passage) → C → World
world_of files faults log cabinet =
    record { files = files cabinet; faults = faults cabinet; log = log cabinet }

-- ---- how a job ends

-- its steps passed, and its work is done: exactly these files were read and then written, and no
-- call failed
pub record IsFinished (job : Job) (w : World) (change : OutsideChange) (status : ℕ)
    (text : List ℕ) (v : World) : Type 0 where
  pub inputs : List NamedBytes
  pub writes : List NamedBytes
  pub passed : AllPass w.files (steps_of job) inputs
  pub work : Works job inputs writes change status text
  pub calm : v.faults ≡ w.faults
  pub log : v.log ≡ w.log ++ (map read_of inputs ++ map written_of writes)
  pub files : AreWritten w.files writes v.files

-- a step refused: exactly the files of the steps before it were read, and none is changed; where it
-- refused what it was handed, no call failed
pub record IsRefused (job : Job) (w : World) (refusal : Refusal) (v : World) : Type 0 where
  pub inputs : List NamedBytes
  pub due : RefuseFrom w.files w.faults v.faults [] (steps_of job) refusal inputs
  pub log : v.log ≡ w.log ++ map read_of inputs
  pub files : v.files ≡ w.files
  pub calm : refusal_status refusal ≢ 5 → v.faults ≡ w.faults

-- all steps passed, and then the journal was not opened: no file is changed, and no call of the
-- cabinet failed
pub record EndsUnopened (job : Job) (w : World) (change : OutsideChange) (why : JournalRefusal)
    (v : World) : Type 0 where
  pub inputs : List NamedBytes
  pub passed : AllPass w.files (steps_of job) inputs
  pub refused : IsWithoutJournal job inputs change why
  pub calm : v.faults ≡ w.faults
  pub log : v.log ≡ w.log ++ map read_of inputs
  pub files : v.files ≡ w.files

-- a read failed, after the steps before it passed
pub record IsUnread (job : Job) (w : World) (name : Word) (v : World) : Type 0 where
  pub inputs : List NamedBytes
  pub reached : ReachFrom w.files [] (steps_of job) name inputs
  pub rose : Rose w.faults v.faults
  pub log : v.log ≡ w.log ++ map read_of inputs
  pub files : v.files ≡ w.files

-- a write failed, after all steps passed, the work was done and the writes before it were made
pub record IsUnwritten (job : Job) (w : World) (change : OutsideChange) (name : Word) (v : World)
    : Type 0 where
  pub inputs : List NamedBytes
  pub writes : List NamedBytes
  pub status : ℕ
  pub text : List ℕ
  pub tried : List Passage
  pub passed : AllPass w.files (steps_of job) inputs
  pub work : Works job inputs writes change status text
  pub rose : Rose w.faults v.faults
  pub stops : StopsAt w.files writes name v.files tried
  pub log : v.log ≡ w.log ++ (map read_of inputs ++ tried)

abbrev pub JobEnds : Job → World → OutsideChange → Report → World → Type 0
JobEnds job w change no_command v = ⊥
JobEnds job w change (refused refusal) v = IsStill change × IsRefused job w refusal v
JobEnds job w change (unopened why) v = EndsUnopened job w change why v
JobEnds job w change (unread name) v = IsStill change × IsUnread job w name v
JobEnds job w change (unwritten name) v = IsUnwritten job w change name v
JobEnds job w change (finished status text) v = IsFinished job w change status text v

-- ---- any command line

-- words that are no job's are refused, and leave all as it is
abbrev pub Ends : Option Job → World → OutsideChange → Report → World → Type 0
Ends None w change report v = (report ≡ no_command) × (v ≡ w) × IsStill change
Ends (Some job) w change report v = JobEnds job w change report v

-- the log of an object grew by passages with the property
abbrev pub LogGrew : List Passage → (List Passage → Type 0) → List Passage → Type 0
LogGrew before P after = (passed : List Passage) × (after ≡ before ++ passed) × P passed

-- the passage is of a file that is read, or of one that is written
abbrev pub IsOfFiles : List Word → List Word → Passage → Type 0
IsOfFiles reads writes (read name bytes) = Contains reads name
IsOfFiles reads writes (wrote name bytes) = Contains writes name
IsOfFiles reads writes (write_failed name bytes) = Contains writes name
IsOfFiles reads writes (took bytes) = ⊥
IsOfFiles reads writes (put bytes) = ⊥
IsOfFiles reads writes (put_failed bytes) = ⊥

-- only files of the job passed; words that are no job's let nothing pass
abbrev pub OnlyOfJob : Option Job → List Passage → Type 0
OnlyOfJob None passed = passed ≡ []
OnlyOfJob (Some job) passed = All (IsOfFiles (names_read (steps_of job)) (names_written job)) passed

-- the files that words have written
abbrev pub names_changed : Option Job → List Word
names_changed None = []
names_changed (Some job) = names_written job

-- the words have no journal kept
abbrev pub KeepsNone : Option Job → Type 0
KeepsNone job = (names : List Word) (links port workers : ℕ)
    → job ≢ Some (Resume names links port workers)

-- the words have no clients served
abbrev pub ServesNone : Option Job → Type 0
ServesNone job = KeepsNone job × ((names : List Word) (links port workers : ℕ)
    → job ≢ Some (Serve names links port workers))

abbrev pub IsStatus : ℕ → Type 0
IsStatus status =
    Contains (0 ∷ 1 ∷ 2 ∷ 3 ∷ 4 ∷ 5 ∷ 6 ∷ 7 ∷ 8 ∷ 9 ∷ 10 ∷ 11 ∷ 13 ∷ 14 ∷ 15 ∷ []) status
