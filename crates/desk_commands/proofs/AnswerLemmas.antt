-- How a command ends, from how its job went on or stopped.
use Rattle.std.proofs.Common.{◌≡◌, ℕ, List, [], map, Option, Some, None, refl, sym, ap, subst, inl, inr}
use Rattle.std.specs.Prelude.{All, Contains, IfSome}
use Rattle.std.proofs.lemmas.Option.{none-some, same_Some}
use Rattle.std.proofs.lemmas.List.Elements.{All-map}
use Rattle.desk_outside.specs.Cause.{Rose}
use Rattle.desk_outside.specs.Files.{Files}
use Rattle.command_words.specs.Words.{Word}
use Rattle.desk_commands.specs.Reports.{Report, Refusal, JournalRefusal, refused, unopened, unread, unwritten, finished, status_of}
use Rattle.desk_commands.specs.Judgements.{NamedBytes}
use Rattle.desk_commands.specs.Steps.{Step, names_read}
use Rattle.desk_commands.specs.Writing.{read_of}
use Rattle.desk_commands.specs.Jobs.{steps_of, names_written, finishing_of}
use Rattle.desk_commands.specs.Outside.{OutsideChange, IsStill}
use Rattle.desk_commands.specs.Desk.{World, JobEnds, LogGrew, IsOfFiles, OnlyOfJob}
use Rattle.desk_commands.specs.Leads.{ToldLead, ToldRefused, RefusedLead, UnreadLead}
use Rattle.desk_commands.specs.Stops.{report_of, journal_refusal, StopLeads}
use Rattle.desk_commands.specs.Ends.{IsDoneBy, IsCutShort, StopsUnopened, JobStopsBy}
use Rattle.desk_commands.specs.Answers.{ToldExact, IsAnswer}
use Rattle.command_words.specs.declared.job.Job.{Job}
use Rattle.desk_commands.specs.declared.stop.Stop.{Stop}
use Rattle.desk_commands.specs.declared.stop.Stop.TheVariants as stops

-- ---- what is reported, and that nothing else was due

module _ (job : Job) (w : World) (change : OutsideChange) (v : World) where
  abbrev pub Ended : Report → Type 0
  Ended report = JobEnds job w change report v × IfSome w.files (λ held. ToldExact held job w report v)

  refused_exact : (files : Option Files) (refusal : Refusal) → IfSome files (λ held. ToldRefused held (steps_of job) refusal) → IfSome files (λ held. ToldExact held job w (refused refusal) v)
  refused_exact None refusal told = tt
  refused_exact (Some held) refusal told =
      record {
        due = λ other h. inl (ap refused (sym (told.alone other h)));
        whole = λ done h. absurd (told.broken done h);
        forms = λ done h. inl (told.forms done h);
      }

  refused_ended : IsStill change → (refusal : Refusal) → RefusedLead w (steps_of job) refusal v → Ended (refused refusal)
  refused_ended same refusal lead =
      ((same, record { inputs = lead.inputs; due = lead.due; log = lead.log; files = lead.files; calm = lead.calm }), refused_exact w.files refusal lead.told)

  -- after a call that failed anything may have been due
  rose_exact : (files : Option Files) (report : Report) → status_of report ≡ 5 → Rose w.faults v.faults → IfSome files (λ held. ToldExact held job w report v)
  rose_exact None report five rose = tt
  rose_exact (Some held) report five rose =
      record {
        due = λ other h. inr (five, rose);
        whole = λ done h. inr rose;
        forms = λ done h. inr (inr rose);
      }

  unread_ended : IsStill change → (name : Word) → UnreadLead w (steps_of job) name v → Ended (unread name)
  unread_ended same name lead =
      ((same, record { inputs = lead.inputs; reached = lead.reached; rose = lead.rose; log = lead.log; files = lead.files }), rose_exact w.files (unread name) refl lead.rose)

  ended_by : (one other : Report) → Some one ≡ Some other → Ended one → Ended other
  ended_by one other e ended = subst Ended (same_Some one other e) ended

  pub stop_ended : (names : List Word) (stop : Stop) (report : Report) → IsStill change → StopLeads names w (steps_of job) stop v → report_of names stop ≡ Some report → Ended report
  stop_ended names (stops.Missing place) report same lead e = ended_by _ report e (refused_ended same _ lead)
  stop_ended names (stops.Large place) report same lead e = ended_by _ report e (refused_ended same _ lead)
  stop_ended names (stops.Unread place) report same lead e = ended_by _ report e (unread_ended same _ lead)
  stop_ended names (stops.Unwritten place) report same lead e = absurd lead
  stop_ended names (stops.OutOfForm place line) report same lead e = ended_by _ report e (refused_ended same _ lead)
  stop_ended names (stops.OverLimit limit number) report same lead e = ended_by _ report e (refused_ended same _ lead)
  stop_ended names (stops.NotValid line reason) report same lead e = ended_by _ report e (refused_ended same _ lead)
  stop_ended names (stops.Unopened why) report same lead e = absurd lead
  stop_ended names stops.NoNext report same lead e = ended_by _ report e (refused_ended same _ lead)
  stop_ended names (stops.ExtraFails line reason) report same lead e = ended_by _ report e (refused_ended same _ lead)
  stop_ended names (stops.BadForm place line cause) report same lead e = ended_by _ report e (refused_ended same _ lead)
  stop_ended names (stops.PastLimit limit number cause) report same lead e = ended_by _ report e (refused_ended same _ lead)
  stop_ended names stops.Memory report same lead e = absurd (none-some report e)

  pub finished_exact : (files : Option Files) (done : List NamedBytes) (status : ℕ) (text : List ℕ) → IfSome files (λ held. ToldLead held (steps_of job) done []) → Contains (finishing_of job) status
      → IfSome files (λ held. ToldExact held job w (finished status text) v)
  finished_exact None done status text told one = tt
  finished_exact (Some held) done status text told one =
      record {
        due = λ other h. absurd (told.due other h.0 h.1);
        whole = λ done h. inl (inl one);
        forms = λ done h. inr (inl (inl one));
      }

  pub unopened_exact : (files : Option Files) (done : List NamedBytes) (why : JournalRefusal) → IfSome files (λ held. ToldLead held (steps_of job) done [])
      → IfSome files (λ held. ToldExact held job w (unopened why) v)
  unopened_exact None done why told = tt
  unopened_exact (Some held) done why told =
      record {
        due = λ other h. absurd (told.due other h.0 h.1);
        whole = λ done h. inl (inr (why, refl));
        forms = λ done h. inr (inl (inr (why, refl)));
      }

-- ---- which files passed

files_asked : (names written : List Word) (done : List NamedBytes) → All (λ (f : NamedBytes). Contains names f.name) done → All (IsOfFiles names written) (map read_of done)
files_asked names written done named = All-map (IsOfFiles names written) read_of done named

pub stop_asked : (names : List Word) (w v : World) (all : List Step) (written : List Word) (stop : Stop) → StopLeads names w all stop v → LogGrew w.log (All (IsOfFiles (names_read all) written)) v.log
stop_asked names w v all written (stops.Missing place) lead = (map read_of lead.inputs, lead.log, files_asked (names_read all) written lead.inputs lead.named)
stop_asked names w v all written (stops.Large place) lead = (map read_of lead.inputs, lead.log, files_asked (names_read all) written lead.inputs lead.named)
stop_asked names w v all written (stops.Unread place) lead = (map read_of lead.inputs, lead.log, files_asked (names_read all) written lead.inputs lead.named)
stop_asked names w v all written (stops.Unwritten place) lead = absurd lead
stop_asked names w v all written (stops.OutOfForm place line) lead = (map read_of lead.inputs, lead.log, files_asked (names_read all) written lead.inputs lead.named)
stop_asked names w v all written (stops.OverLimit limit number) lead = (map read_of lead.inputs, lead.log, files_asked (names_read all) written lead.inputs lead.named)
stop_asked names w v all written (stops.NotValid line reason) lead = (map read_of lead.inputs, lead.log, files_asked (names_read all) written lead.inputs lead.named)
stop_asked names w v all written (stops.Unopened why) lead = absurd lead
stop_asked names w v all written stops.NoNext lead = (map read_of lead.inputs, lead.log, files_asked (names_read all) written lead.inputs lead.named)
stop_asked names w v all written (stops.ExtraFails line reason) lead = (map read_of lead.inputs, lead.log, files_asked (names_read all) written lead.inputs lead.named)
stop_asked names w v all written (stops.BadForm place line cause) lead = (map read_of lead.inputs, lead.log, files_asked (names_read all) written lead.inputs lead.named)
stop_asked names w v all written (stops.PastLimit limit number cause) lead = (map read_of lead.inputs, lead.log, files_asked (names_read all) written lead.inputs lead.named)
stop_asked names w v all written stops.Memory lead = (map read_of lead.inputs, lead.log, files_asked (names_read all) written lead.inputs lead.named)

-- ---- the end of a job

module _ (job : Job) (w : World) (change : OutsideChange) (v : World) where
  pub done_answer : (status : ℕ) (text : List ℕ) → IsDoneBy job w change status text v → IsAnswer (Some job) w change status text v
  done_answer status text done =
      record {
        report = finished status text;
        status_is = refl;
        text_is = refl;
        ends = done.finished;
        exact = finished_exact job w change v w.files done.finished.inputs status text done.told done.finishing;
      }

  cut_ended : (name : Word) → IsCutShort job w change name v → Ended job w change v (unwritten name)
  cut_ended name cut = (cut.unwritten, rose_exact job w change v w.files (unwritten name) refl cut.unwritten.rose)

  unopened_ended : (why : JournalRefusal) → StopsUnopened job w change why v → Ended job w change v (unopened why)
  unopened_ended why stop = (stop.unopened, unopened_exact job w change v w.files stop.unopened.inputs why stop.told)

  pub job_stop_ended : (names : List Word) (stop : Stop) (report : Report) → JobStopsBy names job w change stop v → report_of names stop ≡ Some report → Ended job w change v report
  job_stop_ended names (stops.Unwritten place) report cut e = ended_by job w change v _ report e (cut_ended _ cut)
  job_stop_ended names (stops.Missing place) report h e = stop_ended job w change v names (stops.Missing place) report h.0 h.1 e
  job_stop_ended names (stops.Large place) report h e = stop_ended job w change v names (stops.Large place) report h.0 h.1 e
  job_stop_ended names (stops.Unread place) report h e = stop_ended job w change v names (stops.Unread place) report h.0 h.1 e
  job_stop_ended names (stops.OutOfForm place line) report h e = stop_ended job w change v names (stops.OutOfForm place line) report h.0 h.1 e
  job_stop_ended names (stops.OverLimit limit number) report h e = stop_ended job w change v names (stops.OverLimit limit number) report h.0 h.1 e
  job_stop_ended names (stops.NotValid line reason) report h e = stop_ended job w change v names (stops.NotValid line reason) report h.0 h.1 e
  job_stop_ended names (stops.Unopened why) report stop e = ended_by job w change v _ report e (unopened_ended (journal_refusal why) stop)
  job_stop_ended names stops.NoNext report h e = stop_ended job w change v names stops.NoNext report h.0 h.1 e
  job_stop_ended names (stops.ExtraFails line reason) report h e = stop_ended job w change v names (stops.ExtraFails line reason) report h.0 h.1 e
  job_stop_ended names (stops.BadForm place line cause) report h e = stop_ended job w change v names (stops.BadForm place line cause) report h.0 h.1 e
  job_stop_ended names (stops.PastLimit limit number cause) report h e = stop_ended job w change v names (stops.PastLimit limit number cause) report h.0 h.1 e
  job_stop_ended names stops.Memory report lead e = absurd (none-some report e)

  pub job_stop_asked : (names : List Word) (stop : Stop) → JobStopsBy names job w change stop v → LogGrew w.log (OnlyOfJob (Some job)) v.log
  job_stop_asked names (stops.Unwritten place) cut = cut.asked
  job_stop_asked names (stops.Missing place) h = stop_asked names w v (steps_of job) (names_written job) (stops.Missing place) h.1
  job_stop_asked names (stops.Large place) h = stop_asked names w v (steps_of job) (names_written job) (stops.Large place) h.1
  job_stop_asked names (stops.Unread place) h = stop_asked names w v (steps_of job) (names_written job) (stops.Unread place) h.1
  job_stop_asked names (stops.OutOfForm place line) h = stop_asked names w v (steps_of job) (names_written job) (stops.OutOfForm place line) h.1
  job_stop_asked names (stops.OverLimit limit number) h = stop_asked names w v (steps_of job) (names_written job) (stops.OverLimit limit number) h.1
  job_stop_asked names (stops.NotValid line reason) h = stop_asked names w v (steps_of job) (names_written job) (stops.NotValid line reason) h.1
  job_stop_asked names (stops.Unopened why) stop = stop.asked
  job_stop_asked names stops.NoNext h = stop_asked names w v (steps_of job) (names_written job) stops.NoNext h.1
  job_stop_asked names (stops.ExtraFails line reason) h = stop_asked names w v (steps_of job) (names_written job) (stops.ExtraFails line reason) h.1
  job_stop_asked names (stops.BadForm place line cause) h = stop_asked names w v (steps_of job) (names_written job) (stops.BadForm place line cause) h.1
  job_stop_asked names (stops.PastLimit limit number cause) h = stop_asked names w v (steps_of job) (names_written job) (stops.PastLimit limit number cause) h.1
  job_stop_asked names stops.Memory lead = stop_asked names w v (steps_of job) (names_written job) stops.Memory lead
