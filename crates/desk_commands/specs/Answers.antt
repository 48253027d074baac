-- The answer of a job, and that no other was due. No clause of `desk` cites this.
use Rattle.std.specs.Prelude.{◌≡◌, ◌⊎◌, ℕ, List, Option, Some, None, IfSome, Contains}
use Rattle.desk_outside.specs.Cause.{Rose}
use Rattle.desk_outside.specs.Files.{Files}
use Rattle.desk_commands.specs.Reports.{Report, Refusal, refused, unopened, status_of, text_of}
use Rattle.desk_commands.specs.Reports.{JournalRefusal}
use Rattle.desk_commands.specs.Judgements.{NamedBytes}
use Rattle.desk_commands.specs.Steps.{AllPass, FirstDue, form_steps}
use Rattle.desk_commands.specs.Jobs.{steps_of, finishing_of}
use Rattle.desk_commands.specs.Outside.{OutsideChange}
use Rattle.desk_commands.specs.Desk.{World, Ends}
use Rattle.command_words.specs.declared.job.Job.{Job}

-- the work of the job is done, or its journal was not opened
abbrev pub IsThrough : Job → Report → Type 0
IsThrough job report = Contains (finishing_of job) (status_of report)
    ⊎ ((why : JournalRefusal) × (report ≡ unopened why))

-- where files are told: what is due is reported, and what passes is through, unless a call failed
pub record ToldExact (held : Files) (job : Job) (w : World) (report : Report) (v : World) : Type 0
  where
    pub due : (other : Refusal) → FirstDue held (steps_of job) other →
        (report ≡ refused other) ⊎ ((status_of report ≡ 5) × Rose w.faults v.faults)
    pub whole : (read : List NamedBytes) → AllPass (Some held) (steps_of job) read →
        IsThrough job report ⊎ Rose w.faults v.faults
    pub forms : (read : List NamedBytes) → AllPass (Some held) (form_steps (steps_of job)) read →
        (status_of report ≡ 1)
        ⊎ (IsThrough job report ⊎ Rose w.faults v.faults)

abbrev pub IsExact : Option Job → World → Report → World → Type 0
IsExact None w report v = Unit {0}
IsExact (Some job) w report v = IfSome w.files (λ held. ToldExact held job w report v)

-- the command ends with a report of this status and text
pub record IsAnswer (job : Option Job) (w : World) (change : OutsideChange) (status : ℕ)
    (text : List ℕ) (v : World) : Type 0 where
  pub report : Report
  pub status_is : status ≡ status_of report
  pub text_is : text ≡ text_of report
  pub ends : Ends job w change report v
  pub exact : IsExact job w report v
