-- How the work of a job ends. No clause of `desk` cites this.
use Rattle.std.specs.Prelude.{ℕ, List, [], Some, IfSome, Contains}
use Rattle.command_words.specs.Words.{Word}
use Rattle.desk_commands.specs.Jobs.{name_at, steps_of, finishing_of}
use Rattle.desk_commands.specs.Outside.{Outside, OutsideChange, still, IsStill}
use Rattle.desk_commands.specs.Reports.{JournalRefusal}
use Rattle.desk_commands.specs.Desk.{World, LogGrew, OnlyOfJob, IsFinished, IsUnwritten}
use Rattle.desk_commands.specs.Desk.{EndsUnopened}
use Rattle.desk_commands.specs.Leads.{ToldLead}
use Rattle.desk_commands.specs.Stops.{StopLeads, journal_refusal}
use Rattle.command_words.specs.declared.job.Job.{Job}
use Rattle.desk_commands.specs.declared.stop.Stop.{Stop}
use Rattle.desk_commands.specs.declared.stop.Stop.TheVariants as stops

-- the work is done, only files of the job passed, and where files are told nothing else was due
pub record IsDoneBy (job : Job) (w : World) (change : OutsideChange) (status : ℕ) (text : List ℕ)
    (v : World) : Type 0 where
  pub finished : IsFinished job w change status text v
  pub finishing : Contains (finishing_of job) status
  pub asked : LogGrew w.log (OnlyOfJob (Some job)) v.log
  pub told : IfSome w.files (λ held. ToldLead held (steps_of job) finished.inputs [])

-- a write failed after all steps passed, and only files of the job passed
pub record IsCutShort (job : Job) (w : World) (change : OutsideChange) (name : Word) (v : World)
    : Type 0 where
  pub unwritten : IsUnwritten job w change name v
  pub asked : LogGrew w.log (OnlyOfJob (Some job)) v.log

-- the journal was not opened after all steps passed, only files of the job passed, and where files
-- are told nothing else was due
pub record StopsUnopened (job : Job) (w : World) (change : OutsideChange) (why : JournalRefusal)
    (v : World) : Type 0 where
  pub unopened : EndsUnopened job w change why v
  pub asked : LogGrew w.log (OnlyOfJob (Some job)) v.log
  pub told : IfSome w.files (λ held. ToldLead held (steps_of job) unopened.inputs [])

-- where a job stopped; memory may run out behind what it did outside
abbrev pub JobStopsBy : List Word → Job → World → OutsideChange → Stop → World → Type 0
JobStopsBy names job w change (stops.Unwritten place) v =
    IsCutShort job w change (name_at names place) v
JobStopsBy names job w change (stops.Unopened why) v =
    StopsUnopened job w change (journal_refusal why) v
JobStopsBy names job w change stops.Memory v = StopLeads names w (steps_of job) stops.Memory v
JobStopsBy names job w change stop v = IsStill change × StopLeads names w (steps_of job) stop v

-- ---- a job that leaves what is outside as it is, whatever that is

abbrev pub IsDone : Job → World → ℕ → List ℕ → World → Type 0
IsDone job w status text v = (o : Outside) → IsDoneBy job w (still o) status text v

abbrev pub JobStops : List Word → Job → World → Stop → World → Type 0
JobStops names job w stop v = (o : Outside) → JobStopsBy names job w (still o) stop v
