-- What the end of a command says of its status.
use Rattle.std.proofs.Common.{◌≡◌, ℕ, zero, suc, List, [], ◌∷◌, ◌++◌, ◌≤◌, map, Option, Some, None, refl, sym, ◌∙◌, ap, subst, arith, inl, inr, append_assoc}
use Rattle.std.specs.Prelude.{◌⊎◌, ◌≢◌, Contains, IfSome}
use Rattle.std.proofs.lemmas.List.{map_push}
use Rattle.std.proofs.lemmas.Option.{none-some}
use Rattle.desk_outside.specs.Files.{Files}
use Rattle.wasg_stages.specs.Valid.{IsValid, MarksHold}
use Rattle.series_model.specs.Submissions.{SubmissionView}
use Rattle.cert_format.specs.declared.cert.Certificate.{Certificate}
use Rattle.command_words.specs.Words.{Word}
use Rattle.desk_commands.specs.Reports.{Report, Refusal, no_command, refused, unread, unwritten, finished, status_of, text_of, refusal_status, missing, large, out_of_form, over_limit, not_valid, JournalRefusal, no_journal, other_journal, bad_slot, journal_fault, journal_status, unopened, no_next, extra_fails, bad_form, past_limit}
use Rattle.desk_commands.specs.Judgements.{NamedBytes}
use Rattle.desk_commands.specs.Steps.{Step, reads, judges, names_read, PassFrom, AllPass}
use Rattle.desk_commands.specs.Writing.{read_of, written_of}
use Rattle.desk_commands.specs.Jobs.{AreFilesOf, name_at, check_steps, steps_of, names_written, searched_statuses, recleared_statuses, served_statuses, resumed_statuses, finished_statuses, calm_statuses, finishing_of, FileWorks, ServiceWorks, ResumeWorks, Works, IsWithoutJournal, JournalDue, JournalStands, HeadlineHolds}
use Rattle.desk_commands.specs.Outside.{OutsideChange, IsStill, door_faults, disk_faults, SomeRose, DiskRose}
use Rattle.desk_commands.specs.Desk.{World, IsFinished, EndsUnopened, JobEnds, Ends, IsStatus}
use Rattle.desk_commands.specs.Answers.{IsThrough, ToldExact, IsExact}
use Rattle.wait_list.specs.Claims.{IsWaitingProof}
use Rattle.desk_commands.specs.Reclearing.{last_book, left_waiting}
use Rattle.slot_program.proofs.StageProofs.{WaitingMarks, AllottedFit, stage_proved}
use Rattle.slot_program.proofs.ServiceLemmas.{works_calm, works_risen}
use Rattle.slot_program.proofs.JournalLemmas.{Standings, works_disk_calm, works_disk_risen, without_calm, without_risen, pass_one, work_due, without_due, without_stands, stands_finishing}
use Rattle.command_words.specs.declared.job.Job.{Job}
use Rattle.command_words.specs.declared.job.Job.TheVariants.{Allocate, Check, Amend, Serve, Resume, Usage, Reclear, Recheck, Report as ReportJob, Inspect, Make, Trial}

-- ---- statuses of work that is done

pub among_finished : (n : ℕ) → Contains finished_statuses n → (n ≡ 0) ⊎ ((8 ≤ n) × (n ≤ 14))
among_finished n (zero, lt, is) = inl (sym is)
among_finished n (suc zero, lt, is) = inr (omega (arith, is), omega (arith, is))
among_finished n (suc (suc zero), lt, is) = inr (omega (arith, is), omega (arith, is))
among_finished n (suc (suc (suc zero)), lt, is) = inr (omega (arith, is), omega (arith, is))
among_finished n (suc (suc (suc (suc zero))), lt, is) = inr (omega (arith, is), omega (arith, is))
among_finished n (suc (suc (suc (suc (suc zero)))), lt, is) = inr (omega (arith, is), omega (arith, is))
among_finished n (suc (suc (suc (suc (suc (suc k))))), lt, is) = absurd (omega (arith, lt))

among_zero : (n : ℕ) → Contains {X = ℕ} (0 ∷ []) n → Contains finished_statuses n
among_zero n (zero, lt, is) = (0, omega arith, is)
among_zero n (suc k, lt, is) = absurd (omega (arith, lt))

among_searched : (n : ℕ) → Contains searched_statuses n → Contains finished_statuses n
among_searched n (zero, lt, is) = (0, omega arith, is)
among_searched n (suc zero, lt, is) = (1, omega arith, is)
among_searched n (suc (suc zero), lt, is) = (2, omega arith, is)
among_searched n (suc (suc (suc k)), lt, is) = absurd (omega (arith, lt))

among_recleared : (n : ℕ) → Contains recleared_statuses n → Contains finished_statuses n
among_recleared n (zero, lt, is) = (0, omega arith, is)
among_recleared n (suc zero, lt, is) = (2, omega arith, is)
among_recleared n (suc (suc k), lt, is) = absurd (omega (arith, lt))

among_served : (n : ℕ) → Contains served_statuses n → Contains finished_statuses n
among_served n (zero, lt, is) = (0, omega arith, is)
among_served n (suc zero, lt, is) = (3, omega arith, is)
among_served n (suc (suc zero), lt, is) = (4, omega arith, is)
among_served n (suc (suc (suc k)), lt, is) = absurd (omega (arith, lt))

among_resumed : (n : ℕ) → Contains resumed_statuses n → Contains finished_statuses n
among_resumed n (zero, lt, is) = (0, omega arith, is)
among_resumed n (suc zero, lt, is) = (3, omega arith, is)
among_resumed n (suc (suc zero), lt, is) = (4, omega arith, is)
among_resumed n (suc (suc (suc zero)), lt, is) = (5, omega arith, is)
among_resumed n (suc (suc (suc (suc k))), lt, is) = absurd (omega (arith, lt))

pub finishing_among : (job : Job) (n : ℕ) → Contains (finishing_of job) n → Contains finished_statuses n
finishing_among (Allocate names nodes workers) n one = among_searched n one
finishing_among (Check names) n one = among_zero n one
finishing_among (Amend names) n one = among_zero n one
finishing_among (Usage names) n one = among_zero n one
finishing_among (Reclear names nodes workers) n one = among_recleared n one
finishing_among (Recheck names) n one = among_zero n one
finishing_among (ReportJob names) n one = among_zero n one
finishing_among (Inspect names) n one = among_zero n one
finishing_among (Serve names links port workers) n one = among_served n one
finishing_among (Resume names links port workers) n one = among_resumed n one
finishing_among (Make number units names) n one = among_zero n one
finishing_among (Trial number units) n one = among_searched n one

-- no other status is among them
pub not_finished : (n : ℕ) → 1 ≤ n → n ≤ 7 → Contains finished_statuses n → ⊥
not_finished n low high one =
    elim (among_finished n one) [
      | inl is ↦ omega (arith, low, high, is)
      | inr range ↦ omega (arith, low, high, range.0)
    ]

pub not_calm : (n : ℕ) → 1 ≤ n → n ≤ 7 → Contains calm_statuses n → ⊥
not_calm n low high (zero, lt, is) = omega (arith, low, is)
not_calm n low high (suc zero, lt, is) = omega (arith, high, is)
not_calm n low high (suc (suc zero), lt, is) = omega (arith, high, is)
not_calm n low high (suc (suc (suc zero)), lt, is) = omega (arith, high, is)
not_calm n low high (suc (suc (suc (suc zero))), lt, is) = omega (arith, high, is)
not_calm n low high (suc (suc (suc (suc (suc zero)))), lt, is) = omega (arith, high, is)
not_calm n low high (suc (suc (suc (suc (suc (suc zero))))), lt, is) = omega (arith, high, is)
not_calm n low high (suc (suc (suc (suc (suc (suc (suc zero)))))), lt, is) = omega (arith, high, is)
not_calm n low high (suc (suc (suc (suc (suc (suc (suc (suc k))))))), lt, is) = absurd (omega (arith, lt))

pub finishing_not : (job : Job) (n : ℕ) → 1 ≤ n → n ≤ 7 → Contains (finishing_of job) n → ⊥
finishing_not job n low high one = not_finished n low high (finishing_among job n one)

finished_is_status : (n : ℕ) → Contains finished_statuses n → IsStatus n
finished_is_status n (zero, lt, is) = (0, omega arith, is)
finished_is_status n (suc zero, lt, is) = (8, omega arith, is)
finished_is_status n (suc (suc zero), lt, is) = (9, omega arith, is)
finished_is_status n (suc (suc (suc zero)), lt, is) = (10, omega arith, is)
finished_is_status n (suc (suc (suc (suc zero))), lt, is) = (11, omega arith, is)
finished_is_status n (suc (suc (suc (suc (suc zero)))), lt, is) = (13, omega arith, is)
finished_is_status n (suc (suc (suc (suc (suc (suc k))))), lt, is) = absurd (omega (arith, lt))

-- 15 is not among them
not_fifteen : Contains finished_statuses 15 → ⊥
not_fifteen one =
    elim (among_finished 15 one) [
      | inl is ↦ omega (arith, is)
      | inr range ↦ omega (arith, range.1)
    ]

-- ---- the status of a refusal

refusal_range : (refusal : Refusal) → (1 ≤ refusal_status refusal) × (refusal_status refusal ≢ 6) × (refusal_status refusal ≢ 7)
refusal_range (missing name) = (omega arith, λ e. omega (arith, e), λ e. omega (arith, e))
refusal_range (large name) = (omega arith, λ e. omega (arith, e), λ e. omega (arith, e))
refusal_range (out_of_form name line) = (omega arith, λ e. omega (arith, e), λ e. omega (arith, e))
refusal_range (over_limit name number) = (omega arith, λ e. omega (arith, e), λ e. omega (arith, e))
refusal_range (not_valid line reason) = (omega arith, λ e. omega (arith, e), λ e. omega (arith, e))
refusal_range no_next = (omega arith, λ e. omega (arith, e), λ e. omega (arith, e))
refusal_range (extra_fails line reason) = (omega arith, λ e. omega (arith, e), λ e. omega (arith, e))
refusal_range (bad_form name line cause) = (omega arith, λ e. omega (arith, e), λ e. omega (arith, e))
refusal_range (past_limit name number cause) = (omega arith, λ e. omega (arith, e), λ e. omega (arith, e))

refusal_not_finished : (refusal : Refusal) → Contains finished_statuses (refusal_status refusal) → ⊥
refusal_not_finished (missing name) one = not_finished 5 (omega arith) (omega arith) one
refusal_not_finished (large name) one = not_finished 5 (omega arith) (omega arith) one
refusal_not_finished (out_of_form name line) one = not_finished 3 (omega arith) (omega arith) one
refusal_not_finished (over_limit name number) one = not_finished 4 (omega arith) (omega arith) one
refusal_not_finished (not_valid line reason) one = not_finished 1 (omega arith) (omega arith) one
refusal_not_finished no_next one = not_fifteen one
refusal_not_finished (extra_fails line reason) one = not_finished 1 (omega arith) (omega arith) one
refusal_not_finished (bad_form name line cause) one = not_finished 3 (omega arith) (omega arith) one
refusal_not_finished (past_limit name number cause) one = not_finished 4 (omega arith) (omega arith) one

refusal_not_two : (refusal : Refusal) → refusal_status refusal ≡ 2 → ⊥
refusal_not_two (missing name) e = omega (arith, e)
refusal_not_two (large name) e = omega (arith, e)
refusal_not_two (out_of_form name line) e = omega (arith, e)
refusal_not_two (over_limit name number) e = omega (arith, e)
refusal_not_two (not_valid line reason) e = omega (arith, e)
refusal_not_two no_next e = omega (arith, e)
refusal_not_two (extra_fails line reason) e = omega (arith, e)
refusal_not_two (bad_form name line cause) e = omega (arith, e)
refusal_not_two (past_limit name number cause) e = omega (arith, e)

refusal_not_fourteen : (refusal : Refusal) → refusal_status refusal ≡ 14 → ⊥
refusal_not_fourteen (missing name) e = omega (arith, e)
refusal_not_fourteen (large name) e = omega (arith, e)
refusal_not_fourteen (out_of_form name line) e = omega (arith, e)
refusal_not_fourteen (over_limit name number) e = omega (arith, e)
refusal_not_fourteen (not_valid line reason) e = omega (arith, e)
refusal_not_fourteen no_next e = omega (arith, e)
refusal_not_fourteen (extra_fails line reason) e = omega (arith, e)
refusal_not_fourteen (bad_form name line cause) e = omega (arith, e)
refusal_not_fourteen (past_limit name number cause) e = omega (arith, e)

refusal_is_status : (refusal : Refusal) → IsStatus (refusal_status refusal)
refusal_is_status (missing name) = (5, omega arith, refl)
refusal_is_status (large name) = (5, omega arith, refl)
refusal_is_status (out_of_form name line) = (3, omega arith, refl)
refusal_is_status (over_limit name number) = (4, omega arith, refl)
refusal_is_status (not_valid line reason) = (1, omega arith, refl)
refusal_is_status no_next = (14, omega arith, refl)
refusal_is_status (extra_fails line reason) = (1, omega arith, refl)
refusal_is_status (bad_form name line cause) = (3, omega arith, refl)
refusal_is_status (past_limit name number cause) = (4, omega arith, refl)

-- ---- the status of a journal that was not opened

journal_range : (why : JournalRefusal) → (13 ≤ journal_status why) × (journal_status why ≤ 14)
journal_range no_journal = (omega arith, omega arith)
journal_range other_journal = (omega arith, omega arith)
journal_range (bad_slot number) = (omega arith, omega arith)
journal_range journal_fault = (omega arith, omega arith)

journal_is_status : (why : JournalRefusal) → IsStatus (journal_status why)
journal_is_status no_journal = (12, omega arith, refl)
journal_is_status other_journal = (12, omega arith, refl)
journal_is_status (bad_slot number) = (12, omega arith, refl)
journal_is_status journal_fault = (13, omega arith, refl)

low_or_last : (n : ℕ) → Contains finished_statuses n → (n ≤ 11) ⊎ (n ≡ 14)
low_or_last n (zero, lt, is) = inl (omega (arith, is))
low_or_last n (suc zero, lt, is) = inl (omega (arith, is))
low_or_last n (suc (suc zero), lt, is) = inl (omega (arith, is))
low_or_last n (suc (suc (suc zero)), lt, is) = inl (omega (arith, is))
low_or_last n (suc (suc (suc (suc zero))), lt, is) = inl (omega (arith, is))
low_or_last n (suc (suc (suc (suc (suc zero)))), lt, is) = inr (sym is)
low_or_last n (suc (suc (suc (suc (suc (suc k))))), lt, is) = absurd (omega (arith, lt))

-- among the statuses of work that is done it is 14 alone
journal_finishing : (why : JournalRefusal) → Contains finished_statuses (journal_status why) → journal_status why ≡ 14
journal_finishing why one =
    elim (low_or_last (journal_status why) one) [
      | inl low ↦ absurd (omega (arith, low, (journal_range why).0))
      | inr is ↦ is
    ]

-- ---- the end of a job

-- the law of the statuses of work that is done
abbrev pub Finishing : Type 0
Finishing = (job : Job) (inputs writes : List NamedBytes) (change : OutsideChange) (status : ℕ) (text : List ℕ) → Works job inputs writes change status text → Contains (finishing_of job) status

module _ (job : Job) (w : World) (change : OutsideChange) (v : World) where
  finished_among : Finishing → (status : ℕ) (text : List ℕ) → IsFinished job w change status text v → Contains finished_statuses status
  finished_among law status text done = finishing_among job status (law job done.inputs done.writes change status text done.work)

  job_is_status : Finishing → (report : Report) → JobEnds job w change report v → IsStatus (status_of report)
  job_is_status law no_command ends = absurd ends
  job_is_status law (refused refusal) ends = refusal_is_status refusal
  job_is_status law (unopened why) ends = journal_is_status why
  job_is_status law (unread name) ends = (5, omega arith, refl)
  job_is_status law (unwritten name) ends = (5, omega arith, refl)
  job_is_status law (finished status text) ends = finished_is_status status (finished_among law status text ends)

  job_not_two : Finishing → (report : Report) → status_of report ≡ 2 → JobEnds job w change report v → ⊥
  job_not_two law no_command e ends = ends
  job_not_two law (refused refusal) e ends = refusal_not_two refusal e
  job_not_two law (unopened why) e ends = omega (arith, e, (journal_range why).0)
  job_not_two law (unread name) e ends = omega (arith, e)
  job_not_two law (unwritten name) e ends = omega (arith, e)
  job_not_two law (finished status text) e ends = not_finished status (omega (arith, e)) (omega (arith, e)) (finished_among law status text ends)

  job_not_six : Finishing → (report : Report) → status_of report ≡ 6 → JobEnds job w change report v → ⊥
  job_not_six law no_command e ends = ends
  job_not_six law (refused refusal) e ends = (refusal_range refusal).1 e
  job_not_six law (unopened why) e ends = omega (arith, e, (journal_range why).0)
  job_not_six law (unread name) e ends = omega (arith, e)
  job_not_six law (unwritten name) e ends = omega (arith, e)
  job_not_six law (finished status text) e ends = not_finished status (omega (arith, e)) (omega (arith, e)) (finished_among law status text ends)

  job_not_seven : Finishing → (report : Report) → status_of report ≡ 7 → JobEnds job w change report v → ⊥
  job_not_seven law no_command e ends = ends
  job_not_seven law (refused refusal) e ends = (refusal_range refusal).2 e
  job_not_seven law (unopened why) e ends = omega (arith, e, (journal_range why).0)
  job_not_seven law (unread name) e ends = omega (arith, e)
  job_not_seven law (unwritten name) e ends = omega (arith, e)
  job_not_seven law (finished status text) e ends = not_finished status (omega (arith, e)) (omega (arith, e)) (finished_among law status text ends)

  pub ended_finished : (report : Report) → Contains finished_statuses (status_of report) → (status_of report ≡ 14 → ⊥) → JobEnds job w change report v → IsFinished job w change (status_of report) (text_of report) v
  ended_finished no_command one not ends = absurd ends
  ended_finished (refused refusal) one not ends = absurd (refusal_not_finished refusal one)
  ended_finished (unopened why) one not ends = absurd (not (journal_finishing why one))
  ended_finished (unread name) one not ends = absurd (not_finished 5 (omega arith) (omega arith) one)
  ended_finished (unwritten name) one not ends = absurd (not_finished 5 (omega arith) (omega arith) one)
  ended_finished (finished status text) one not ends = ends

  -- at one of the statuses of work that is done, at that of a journal that was not opened, and where no
  -- season follows, no call of the cabinet failed
  job_calm : (report : Report) → Contains calm_statuses (status_of report) → JobEnds job w change report v → v.faults ≡ w.faults
  job_calm no_command one ends = absurd ends
  job_calm (refused refusal) one ends = ends.1.calm (λ five. not_calm 5 (omega arith) (omega arith) (subst (λ (n : ℕ). Contains calm_statuses n) five one))
  job_calm (unopened why) one ends = ends.calm
  job_calm (unread name) one ends = absurd (not_calm 5 (omega arith) (omega arith) one)
  job_calm (unwritten name) one ends = absurd (not_calm 5 (omega arith) (omega arith) one)
  job_calm (finished status text) one ends = ends.calm

  -- the disk stands still but where it failed
  job_disk_calm : (report : Report) → (status_of report ≡ 5 → ⊥) → (status_of report ≡ 14 → ⊥) → JobEnds job w change report v → disk_faults change.after ≡ disk_faults change.before
  job_disk_calm no_command five not ends = absurd ends
  job_disk_calm (refused refusal) five not ends = ap disk_faults ends.0
  job_disk_calm (unopened why) five not ends = without_calm job ends.inputs change why not ends.refused
  job_disk_calm (unread name) five not ends = absurd (five refl)
  job_disk_calm (unwritten name) five not ends = absurd (five refl)
  job_disk_calm (finished status text) five not ends = works_disk_calm job ends.inputs ends.writes change status text not ends.work

  -- and failed at 14: the journal was not opened, or a put failed
  job_disk_risen : Finishing → (report : Report) → status_of report ≡ 14 → JobEnds job w change report v → DiskRose change.before.disk change.after.disk
      × (((why : JournalRefusal) × (report ≡ unopened why) × EndsUnopened job w change why v) ⊎ IsFinished job w change 14 (text_of report) v)
  job_disk_risen law no_command is ends = absurd ends
  job_disk_risen law (refused refusal) is ends = absurd (refusal_not_fourteen refusal is)
  job_disk_risen law (unopened why) is ends = (without_risen job ends.inputs change why is ends.refused, inl (why, refl, ends))
  job_disk_risen law (unread name) is ends = absurd (omega (arith, is))
  job_disk_risen law (unwritten name) is ends = absurd (omega (arith, is))
  job_disk_risen law (finished status text) is ends =
      let done = subst (λ (n : ℕ). IsFinished job w change n text v) is ends in
      (works_disk_risen job done.inputs done.writes change text done.work (law job done.inputs done.writes change 14 text done.work), inr done)

-- ---- any words

pub is_status : Finishing → (job : Option Job) (w : World) (change : OutsideChange) (report : Report) (v : World) → Ends job w change report v → IsStatus (status_of report)
is_status law None w change report v ends = subst (λ (n : ℕ). IsStatus n) (sym (ap status_of ends.0)) (2, omega arith, refl)
is_status law (Some job) w change report v ends = job_is_status job w change v law report ends

pub two_is_none : Finishing → (job : Option Job) (w : World) (change : OutsideChange) (report : Report) (v : World) → status_of report ≡ 2 → Ends job w change report v → job ≡ None
two_is_none law None w change report v e ends = refl
two_is_none law (Some job) w change report v e ends = absurd (job_not_two job w change v law report e ends)

pub not_six : Finishing → (job : Option Job) (w : World) (change : OutsideChange) (report : Report) (v : World) → status_of report ≡ 6 → Ends job w change report v → ⊥
not_six law None w change report v e ends = omega (arith, e, ap status_of ends.0)
not_six law (Some job) w change report v e ends = job_not_six job w change v law report e ends

pub not_seven : Finishing → (job : Option Job) (w : World) (change : OutsideChange) (report : Report) (v : World) → status_of report ≡ 7 → Ends job w change report v → ⊥
not_seven law None w change report v e ends = omega (arith, e, ap status_of ends.0)
not_seven law (Some job) w change report v e ends = job_not_seven job w change v law report e ends

pub is_calm : (job : Option Job) (w : World) (change : OutsideChange) (report : Report) (v : World) → Contains calm_statuses (status_of report) → Ends job w change report v → v.faults ≡ w.faults
is_calm None w change report v one ends = absurd (not_calm 2 (omega arith) (omega arith) (subst (λ (n : ℕ). Contains calm_statuses n) (ap status_of ends.0) one))
is_calm (Some job) w change report v one ends = job_calm job w change v report one ends

pub disk_is_calm : (job : Option Job) (w : World) (change : OutsideChange) (report : Report) (v : World) → (status_of report ≡ 5 → ⊥) → (status_of report ≡ 14 → ⊥) → Ends job w change report v → disk_faults change.after ≡ disk_faults change.before
disk_is_calm None w change report v five not ends = ap disk_faults ends.2
disk_is_calm (Some job) w change report v five not ends = job_disk_calm job w change v report five not ends

pub disk_has_risen : Finishing → (o : Option Job) (w : World) (change : OutsideChange) (report : Report) (v : World) → status_of report ≡ 14 → Ends o w change report v
    → (job : Job) × (o ≡ Some job) × DiskRose change.before.disk change.after.disk
    × (((why : JournalRefusal) × (report ≡ unopened why) × EndsUnopened job w change why v) ⊎ IsFinished job w change 14 (text_of report) v)
disk_has_risen law None w change report v is ends = absurd (omega (arith, is, ap status_of ends.0))
disk_has_risen law (Some job) w change report v is ends = let r = job_disk_risen job w change v law report is ends in (job, refl, r.0, r.1)

-- what is reported of a journal that was not opened
pub ends_unopened : (o : Option Job) (job : Job) (w : World) (change : OutsideChange) (report : Report) (v : World) (why : JournalRefusal) → o ≡ Some job → report ≡ unopened why → Ends o w change report v → EndsUnopened job w change why v
ends_unopened o job w change report v why e is ends =
    subst (λ (r : Report). JobEnds job w change r v) is (subst (λ (p : Option Job). Ends p w change report v) e ends)

pub none_ends : (job : Option Job) (w : World) (change : OutsideChange) (report : Report) (v : World) → job ≡ None → Ends job w change report v → (v ≡ w) × IsStill change × (status_of report ≡ 2)
none_ends None w change report v e ends = (ends.1, ends.2, ap status_of ends.0)
none_ends (Some job) w change report v e ends = absurd (none-some job (sym e))

pub job_ends : (o : Option Job) (job : Job) (w : World) (change : OutsideChange) (report : Report) (v : World) → o ≡ Some job → Ends o w change report v → JobEnds job w change report v
job_ends o job w change report v e ends = subst (λ (p : Option Job). Ends p w change report v) e ends

pub no_job : (job : Option Job) → ((j : Job) → job ≡ Some j → ⊥) → job ≡ None
no_job None none = refl
no_job (Some j) none = absurd (none j refl)

-- a job that ended with a status of those that finish it is finished
pub is_finished : (o : Option Job) (job : Job) (w : World) (change : OutsideChange) (report : Report) (v : World) → o ≡ Some job → Contains (finishing_of job) (status_of report) → (status_of report ≡ 14 → ⊥) → Ends o w change report v → IsFinished job w change (status_of report) (text_of report) v
is_finished o job w change report v e one not ends = ended_finished job w change v report (finishing_among job (status_of report) one) not (job_ends o job w change report v e ends)

-- ---- faults of doors

pub doors_calm : (o : Option Job) (w : World) (change : OutsideChange) (report : Report) (v : World) → (status_of report ≡ 0) ⊎ (status_of report ≡ 11) → Ends o w change report v → door_faults change.after ≡ door_faults change.before
doors_calm None w change report v one ends = ap door_faults ends.2
doors_calm (Some job) w change report v one ends =
    let among : Contains finished_statuses (status_of report) = elim one [
      | inl is ↦ (0, omega arith, sym is)
      | inr is ↦ (4, omega arith, sym is)
    ] in
    let done = ended_finished job w change v report among (λ bad. elim one [ inl is ↦ omega (arith, is, bad) | inr is ↦ omega (arith, is, bad) ]) ends in
    works_calm job done.inputs done.writes change (status_of report) (text_of report) done.work one

pub door_risen : Finishing → (o : Option Job) (w : World) (change : OutsideChange) (report : Report) (v : World) → status_of report ≡ 10 → Ends o w change report v → SomeRose change.before.doors change.after.doors
door_risen law None w change report v ten ends = absurd (omega (arith, ten, ap status_of ends.0))
door_risen law (Some job) w change report v ten ends =
    let done = ended_finished job w change v report (3, omega arith, sym ten) (λ bad. omega (arith, ten, bad)) ends in
    let work = subst (λ (n : ℕ). Works job done.inputs done.writes change n (text_of report)) ten done.work in
    works_risen job done.inputs done.writes change (text_of report) work (law job done.inputs done.writes change 10 (text_of report) work)

-- ---- what was due, where files are told

pub told_exact : (o : Option Job) (job : Job) (w : World) (report : Report) (v : World) (held : Files) → o ≡ Some job → w.files ≡ Some held → IsExact o w report v → ToldExact held job w report v
told_exact o job w report v held e told exact =
    subst (λ (f : Option Files). IfSome f (λ h. ToldExact h job w report v)) told (subst (λ (p : Option Job). IsExact p w report v) e exact)

-- ---- the journal, by what its disk tells

module _ (job : Job) (w : World) (change : OutsideChange) (v : World) where
  -- a job that is through has not opened its journal, or is finished
  through_ends : (report : Report) → IsThrough job report → JobEnds job w change report v
      → ((why : JournalRefusal) × (report ≡ unopened why) × EndsUnopened job w change why v) ⊎ IsFinished job w change (status_of report) (text_of report) v
  through_ends no_command through ends = absurd ends
  through_ends (refused refusal) through ends =
      elim through [
        | inl one ↦ absurd (refusal_not_finished refusal (finishing_among job (refusal_status refusal) one))
        | inr un ↦ let bad : refused refusal ≡ unopened un.0 = un.1 in absurd cc
      ]
  through_ends (unopened why) through ends = inl (why, refl, ends)
  through_ends (unread name) through ends =
      elim through [
        | inl one ↦ absurd (finishing_not job 5 (omega arith) (omega arith) one)
        | inr un ↦ let bad : unread name ≡ unopened un.0 = un.1 in absurd cc
      ]
  through_ends (unwritten name) through ends =
      elim through [
        | inl one ↦ absurd (finishing_not job 5 (omega arith) (omega arith) one)
        | inr un ↦ let bad : unwritten name ≡ unopened un.0 = un.1 in absurd cc
      ]
  through_ends (finished status text) through ends = inr ends

  module _ (law : Standings) (held : Files) (inputs : List NamedBytes) (told : w.files ≡ Some held) (pass : AllPass (Some held) (steps_of job) inputs) where
    same_inputs : (others : List NamedBytes) → AllPass w.files (steps_of job) others → others ≡ inputs
    same_inputs others passed = pass_one held [] (steps_of job) others inputs (subst (λ (f : Option Files). AllPass f (steps_of job) others) told passed) pass

    pub job_said : (report : Report) (why : JournalRefusal) → IsThrough job report → JobEnds job w change report v → JournalDue job inputs change.before.disk why → (report ≡ unopened why) ⊎ (status_of report ≡ 14)
    job_said report why through ends due =
        elim (through_ends report through ends) [
          | inl un ↦ elim (without_due law job inputs change un.0 why (subst (λ (l : List NamedBytes). IsWithoutJournal job l change un.0) (same_inputs un.2.inputs un.2.passed) un.2.refused) due) [
            | inl same ↦ inl (un.1 ∙ ap unopened same)
            | inr fourteen ↦ inr (ap status_of un.1 ∙ fourteen)
          ]
          | inr done ↦ absurd (work_due law job inputs done.writes change (status_of report) (text_of report) why
              (subst (λ (l : List NamedBytes). Works job l done.writes change (status_of report) (text_of report)) (same_inputs done.inputs done.passed) done.work) due)
        ]

    pub job_serves : Finishing → (report : Report) → IsThrough job report → JobEnds job w change report v → JournalStands job inputs change.before.disk → (DiskRose change.before.disk change.after.disk → ⊥) → Contains served_statuses (status_of report)
    job_serves finishing report through ends stands calm =
        elim (through_ends report through ends) [
          | inl un ↦
              let refused_as = subst (λ (l : List NamedBytes). IsWithoutJournal job l change un.0) (same_inputs un.2.inputs un.2.passed) un.2.refused in
              absurd (calm (without_risen job inputs change un.0 (without_stands law job inputs change un.0 refused_as stands) refused_as))
          | inr done ↦
              stands_finishing job inputs change.before.disk (status_of report) stands (finishing job done.inputs done.writes change (status_of report) (text_of report) done.work)
              (λ is. let work = subst (λ (n : ℕ). Works job done.inputs done.writes change n (text_of report)) is done.work in
              calm (works_disk_risen job done.inputs done.writes change (text_of report) work (finishing job done.inputs done.writes change 14 (text_of report) work)))
        ]

-- ---- the headline

append_nil : (names : List Word) → names ++ [] ≡ names
append_nil [] = refl
append_nil (name ∷ names) = ap (λ (l : List Word). name ∷ l) (append_nil names)

abbrev named : List NamedBytes → List Word
named files = map (λ (file : NamedBytes). file.name) files

pass_named : (files : Option Files) (before : List NamedBytes) (steps : List Step) (read : List NamedBytes) → PassFrom files before steps read → named read ≡ named before ++ names_read steps
pass_named files before [] read e = ap (λ (l : List NamedBytes). named l) e ∙ sym (append_nil (named before))
pass_named files before (reads name most ∷ steps) read h =
    let file : NamedBytes = record { name = name; bytes = h.0 } in
    pass_named files (before ++ file ∷ []) steps read h.2
    ∙ (ap (λ (l : List Word). l ++ names_read steps) (map_push (λ (f : NamedBytes). f.name) before file)
    ∙ append_assoc (named before) (name ∷ []) (names_read steps))
pass_named files before (judges judgement name ∷ steps) read h = pass_named files before steps read h.1

file_named : (job : Job) (inputs writes : List NamedBytes) (status : ℕ) (text : List ℕ) → FileWorks job inputs writes status text → named writes ≡ names_written job
file_named (Allocate names nodes workers) [] writes status text work = absurd work
file_named (Allocate names nodes workers) (capacity ∷ []) writes status text work = absurd work
file_named (Allocate names nodes workers) (capacity ∷ requests ∷ []) writes status text work = ap (λ (l : List NamedBytes). named l) work.written
file_named (Allocate names nodes workers) (capacity ∷ requests ∷ more ∷ rest) writes status text work = absurd work
file_named (Check names) [] writes status text work = absurd work
file_named (Check names) (capacity ∷ []) writes status text work = absurd work
file_named (Check names) (capacity ∷ requests ∷ []) writes status text work = absurd work
file_named (Check names) (capacity ∷ requests ∷ certificate ∷ []) writes status text work = ap (λ (l : List NamedBytes). named l) work.1
file_named (Check names) (capacity ∷ requests ∷ certificate ∷ more ∷ rest) writes status text work = absurd work
file_named (Amend names) [] writes status text work = absurd work
file_named (Amend names) (capacity ∷ []) writes status text work = absurd work
file_named (Amend names) (capacity ∷ requests ∷ []) writes status text work = absurd work
file_named (Amend names) (capacity ∷ requests ∷ certificate ∷ []) writes status text work = absurd work
file_named (Amend names) (capacity ∷ requests ∷ certificate ∷ asks ∷ []) writes status text work = ap (λ (l : List NamedBytes). named l) work.written
file_named (Amend names) (capacity ∷ requests ∷ certificate ∷ asks ∷ more ∷ rest) writes status text work = absurd work
file_named (Usage names) [] writes status text work = absurd work
file_named (Usage names) (capacity ∷ []) writes status text work = absurd work
file_named (Usage names) (capacity ∷ requests ∷ []) writes status text work = absurd work
file_named (Usage names) (capacity ∷ requests ∷ certificate ∷ []) writes status text work = absurd work
file_named (Usage names) (capacity ∷ requests ∷ certificate ∷ operated ∷ []) writes status text work = ap (λ (l : List NamedBytes). named l) work.written
file_named (Usage names) (capacity ∷ requests ∷ certificate ∷ operated ∷ more ∷ rest) writes status text work = absurd work
file_named (Reclear names nodes workers) [] writes status text work = absurd work
file_named (Reclear names nodes workers) (capacity ∷ []) writes status text work = absurd work
file_named (Reclear names nodes workers) (capacity ∷ requests ∷ []) writes status text work = absurd work
file_named (Reclear names nodes workers) (capacity ∷ requests ∷ certificate ∷ []) writes status text work = absurd work
file_named (Reclear names nodes workers) (capacity ∷ requests ∷ certificate ∷ asks ∷ []) writes status text work = ap (λ (l : List NamedBytes). named l) work.written
file_named (Reclear names nodes workers) (capacity ∷ requests ∷ certificate ∷ asks ∷ more ∷ rest) writes status text work = absurd work
file_named (Recheck names) [] writes status text work = absurd work
file_named (Recheck names) (capacity ∷ []) writes status text work = absurd work
file_named (Recheck names) (capacity ∷ requests ∷ []) writes status text work = absurd work
file_named (Recheck names) (capacity ∷ requests ∷ certificate ∷ []) writes status text work = absurd work
file_named (Recheck names) (capacity ∷ requests ∷ certificate ∷ asks ∷ []) writes status text work = absurd work
file_named (Recheck names) (capacity ∷ requests ∷ certificate ∷ asks ∷ extra ∷ []) writes status text work = ap (λ (l : List NamedBytes). named l) work.written
file_named (Recheck names) (capacity ∷ requests ∷ certificate ∷ asks ∷ extra ∷ more ∷ rest) writes status text work = absurd work
file_named (ReportJob names) [] writes status text work = absurd work
file_named (ReportJob names) (capacity ∷ []) writes status text work = absurd work
file_named (ReportJob names) (capacity ∷ requests ∷ []) writes status text work = absurd work
file_named (ReportJob names) (capacity ∷ requests ∷ certificate ∷ []) writes status text work = ap (λ (l : List NamedBytes). named l) work.written
file_named (ReportJob names) (capacity ∷ requests ∷ certificate ∷ more ∷ rest) writes status text work = absurd work
file_named (Inspect names) [] writes status text work = absurd work
file_named (Inspect names) (capacity ∷ []) writes status text work = absurd work
file_named (Inspect names) (capacity ∷ requests ∷ []) writes status text work = ap (λ (l : List NamedBytes). named l) work.written
file_named (Inspect names) (capacity ∷ requests ∷ more ∷ rest) writes status text work = absurd work
file_named (Serve names links port workers) inputs writes status text work = absurd work
file_named (Resume names links port workers) inputs writes status text work = absurd work
file_named (Make number units names) [] writes status text work = ap (λ (l : List NamedBytes). named l) work.written
file_named (Make number units names) (file ∷ rest) writes status text work = absurd work
file_named (Trial number units) [] writes status text work = ap (λ (l : List NamedBytes). named l) work.written
file_named (Trial number units) (file ∷ rest) writes status text work = absurd work

service_named : (names : List Word) (links : ℕ) (inputs writes : List NamedBytes) (change : OutsideChange) (status : ℕ) (text : List ℕ) → ServiceWorks names links inputs writes change status text → named writes ≡ name_at names 3 ∷ []
service_named names links [] writes change status text work = absurd work
service_named names links (capacity ∷ []) writes change status text work = absurd work
service_named names links (capacity ∷ requests ∷ []) writes change status text work = absurd work
service_named names links (capacity ∷ requests ∷ certificate ∷ []) writes change status text work = ap (λ (l : List NamedBytes). named l) work.written
service_named names links (capacity ∷ requests ∷ certificate ∷ more ∷ rest) writes change status text work = absurd work

resume_named : (names : List Word) (links : ℕ) (inputs writes : List NamedBytes) (change : OutsideChange) (status : ℕ) (text : List ℕ) → ResumeWorks names links inputs writes change status text → named writes ≡ name_at names 4 ∷ []
resume_named names links [] writes change status text work = absurd work
resume_named names links (capacity ∷ []) writes change status text work = absurd work
resume_named names links (capacity ∷ requests ∷ []) writes change status text work = absurd work
resume_named names links (capacity ∷ requests ∷ certificate ∷ []) writes change status text work = ap (λ (l : List NamedBytes). named l) work.written
resume_named names links (capacity ∷ requests ∷ certificate ∷ more ∷ rest) writes change status text work = absurd work

works_named : (job : Job) (inputs writes : List NamedBytes) (change : OutsideChange) (status : ℕ) (text : List ℕ) → Works job inputs writes change status text → named writes ≡ names_written job
works_named (Allocate names nodes workers) inputs writes change status text work = file_named (Allocate names nodes workers) inputs writes status text work.1
works_named (Check names) inputs writes change status text work = file_named (Check names) inputs writes status text work.1
works_named (Amend names) inputs writes change status text work = file_named (Amend names) inputs writes status text work.1
works_named (Usage names) inputs writes change status text work = file_named (Usage names) inputs writes status text work.1
works_named (Reclear names nodes workers) inputs writes change status text work = file_named (Reclear names nodes workers) inputs writes status text work.1
works_named (Recheck names) inputs writes change status text work = file_named (Recheck names) inputs writes status text work.1
works_named (ReportJob names) inputs writes change status text work = file_named (ReportJob names) inputs writes status text work.1
works_named (Inspect names) inputs writes change status text work = file_named (Inspect names) inputs writes status text work.1
works_named (Serve names links port workers) inputs writes change status text work = service_named names links inputs writes change status text work
works_named (Resume names links port workers) inputs writes change status text work = resume_named names links inputs writes change status text work
works_named (Make number units names) inputs writes change status text work = file_named (Make number units names) inputs writes status text work.1
works_named (Trial number units) inputs writes change status text work = file_named (Trial number units) inputs writes status text work.1

files_of : (job : Job) (files : Option Files) (inputs writes : List NamedBytes) (change : OutsideChange) (status : ℕ) (text : List ℕ) → AllPass files (steps_of job) inputs → Works job inputs writes change status text → AreFilesOf job inputs writes
files_of job files inputs writes change status text pass work = record {
  read = pass_named files [] (steps_of job) inputs pass;
  written = works_named job inputs writes change status text work;
}

module _ (marks : (s : SubmissionView) (c : Certificate) → IsValid s c → MarksHold s c) (waits : WaitingMarks) (fit : AllottedFit) where
  check_marks : (names : List Word) (files : Option Files) (done writes : List NamedBytes) (change : OutsideChange) (status : ℕ) (text : List ℕ) → AllPass files (check_steps names) done → writes ≡ [] → HeadlineHolds (Check names) done writes change status text
  check_marks names files done writes change status text (one, handed1, (capacity, (two, handed2, (season, (three, handed3, (spelled, ((s, c, made, spells, valid), all))))))) none =
      let a : NamedBytes = record { name = name_at names 0; bytes = one } in
      let b : NamedBytes = record { name = name_at names 1; bytes = two } in
      let d : NamedBytes = record { name = name_at names 2; bytes = three } in
      subst (λ (l : List NamedBytes). HeadlineHolds (Check names) l writes change status text) (sym all)
      (subst (λ (l : List NamedBytes). HeadlineHolds (Check names) (a ∷ b ∷ d ∷ []) l change status text) (sym none) (s, c, spells, record { made = made; valid = valid; marks = marks s c valid }))

  file_marks : (job : Job) (files : Option Files) (done writes : List NamedBytes) (change : OutsideChange) (status : ℕ) (text : List ℕ) → AllPass files (steps_of job) done → FileWorks job done writes status text → HeadlineHolds job done writes change status text
  file_marks (Allocate names nodes workers) files [] writes change status text pass work = absurd work
  file_marks (Allocate names nodes workers) files (capacity ∷ []) writes change status text pass work = absurd work
  file_marks (Allocate names nodes workers) files (capacity ∷ requests ∷ []) writes change status text pass work =
      let out = work.output in
      subst (λ (l : List NamedBytes). HeadlineHolds (Allocate names nodes workers) (capacity ∷ requests ∷ []) l change status text) (sym work.written)
      (work.season, out.proved, out.spelled, out.printed, record { made = work.made; valid = out.run.valid; marks = marks work.season out.proved out.run.valid })
  file_marks (Allocate names nodes workers) files (capacity ∷ requests ∷ more ∷ rest) writes change status text pass work = absurd work
  file_marks (Check names) files [] writes change status text pass work = absurd work
  file_marks (Check names) files (capacity ∷ []) writes change status text pass work = absurd work
  file_marks (Check names) files (capacity ∷ requests ∷ []) writes change status text pass work = absurd work
  file_marks (Check names) files (capacity ∷ requests ∷ certificate ∷ []) writes change status text pass work = check_marks names files (capacity ∷ requests ∷ certificate ∷ []) writes change status text pass work.1
  file_marks (Check names) files (capacity ∷ requests ∷ certificate ∷ more ∷ rest) writes change status text pass work = absurd work
  file_marks (Amend names) files [] writes change status text pass work = absurd work
  file_marks (Amend names) files (capacity ∷ []) writes change status text pass work = absurd work
  file_marks (Amend names) files (capacity ∷ requests ∷ []) writes change status text pass work = absurd work
  file_marks (Amend names) files (capacity ∷ requests ∷ certificate ∷ []) writes change status text pass work = absurd work
  file_marks (Amend names) files (capacity ∷ requests ∷ certificate ∷ asks ∷ []) writes change status text pass work =
      subst (λ (l : List NamedBytes). HeadlineHolds (Amend names) (capacity ∷ requests ∷ certificate ∷ asks ∷ []) l change status text) (sym work.written)
      (work.season, work.proved, work.spelled, record { made = work.made; valid = work.valid; marks = marks work.season work.proved work.valid }, work.output)
  file_marks (Amend names) files (capacity ∷ requests ∷ certificate ∷ asks ∷ more ∷ rest) writes change status text pass work = absurd work
  file_marks (Usage names) files [] writes change status text pass work = absurd work
  file_marks (Usage names) files (capacity ∷ []) writes change status text pass work = absurd work
  file_marks (Usage names) files (capacity ∷ requests ∷ []) writes change status text pass work = absurd work
  file_marks (Usage names) files (capacity ∷ requests ∷ certificate ∷ []) writes change status text pass work = absurd work
  file_marks (Usage names) files (capacity ∷ requests ∷ certificate ∷ operated ∷ []) writes change status text pass work =
      subst (λ (l : List NamedBytes). HeadlineHolds (Usage names) (capacity ∷ requests ∷ certificate ∷ operated ∷ []) l change status text) (sym work.written)
      (work.season, work.proved, work.spelled, record { made = work.made; valid = work.valid; marks = marks work.season work.proved work.valid }, work.reports, work.said, work.output)
  file_marks (Usage names) files (capacity ∷ requests ∷ certificate ∷ operated ∷ more ∷ rest) writes change status text pass work = absurd work
  file_marks (Reclear names nodes workers) files [] writes change status text pass work = absurd work
  file_marks (Reclear names nodes workers) files (capacity ∷ []) writes change status text pass work = absurd work
  file_marks (Reclear names nodes workers) files (capacity ∷ requests ∷ []) writes change status text pass work = absurd work
  file_marks (Reclear names nodes workers) files (capacity ∷ requests ∷ certificate ∷ []) writes change status text pass work = absurd work
  file_marks (Reclear names nodes workers) files (capacity ∷ requests ∷ certificate ∷ asks ∷ []) writes change status text pass work =
      let cleared = work.output in
      let out = cleared.output in
      let proof : IsWaitingProof (last_book work.season work.proved cleared.history) (left_waiting work.season work.proved cleared.history) out.stage =
      record { problem = out.problem; problem_is = out.problem_is; proof = out.run.proof } in
      subst (λ (l : List NamedBytes). HeadlineHolds (Reclear names nodes workers) (capacity ∷ requests ∷ certificate ∷ asks ∷ []) l change status text) (sym work.written) (
        work.season,
        work.proved,
        work.spelled,
        record { made = work.made; valid = work.valid; marks = marks work.season work.proved work.valid },
        cleared.history,
        out.stage,
        out.spelled,
        stage_proved waits fit work.season work.proved asks.bytes cleared.history out.stage cleared.asked cleared.one proof,
        out.printed,
      )
  file_marks (Reclear names nodes workers) files (capacity ∷ requests ∷ certificate ∷ asks ∷ more ∷ rest) writes change status text pass work = absurd work
  file_marks (Recheck names) files [] writes change status text pass work = absurd work
  file_marks (Recheck names) files (capacity ∷ []) writes change status text pass work = absurd work
  file_marks (Recheck names) files (capacity ∷ requests ∷ []) writes change status text pass work = absurd work
  file_marks (Recheck names) files (capacity ∷ requests ∷ certificate ∷ []) writes change status text pass work = absurd work
  file_marks (Recheck names) files (capacity ∷ requests ∷ certificate ∷ asks ∷ []) writes change status text pass work = absurd work
  file_marks (Recheck names) files (capacity ∷ requests ∷ certificate ∷ asks ∷ extra ∷ []) writes change status text pass work =
      subst (λ (l : List NamedBytes). HeadlineHolds (Recheck names) (capacity ∷ requests ∷ certificate ∷ asks ∷ extra ∷ []) l change status text) (sym work.written) (
        work.season,
        work.proved,
        work.spelled,
        record { made = work.made; valid = work.valid; marks = marks work.season work.proved work.valid },
        work.history,
        work.stage,
        work.said,
        stage_proved waits fit work.season work.proved asks.bytes work.history work.stage work.asked work.one work.proof,
      )
  file_marks (Recheck names) files (capacity ∷ requests ∷ certificate ∷ asks ∷ extra ∷ more ∷ rest) writes change status text pass work = absurd work
  file_marks (ReportJob names) files [] writes change status text pass work = absurd work
  file_marks (ReportJob names) files (capacity ∷ []) writes change status text pass work = absurd work
  file_marks (ReportJob names) files (capacity ∷ requests ∷ []) writes change status text pass work = absurd work
  file_marks (ReportJob names) files (capacity ∷ requests ∷ certificate ∷ []) writes change status text pass work =
      subst (λ (l : List NamedBytes). HeadlineHolds (ReportJob names) (capacity ∷ requests ∷ certificate ∷ []) l change status text) (sym work.written)
      (work.season, work.proved, work.spelled, record { made = work.made; valid = work.valid; marks = marks work.season work.proved work.valid }, work.output)
  file_marks (ReportJob names) files (capacity ∷ requests ∷ certificate ∷ more ∷ rest) writes change status text pass work = absurd work
  file_marks (Inspect names) files [] writes change status text pass work = absurd work
  file_marks (Inspect names) files (capacity ∷ []) writes change status text pass work = absurd work
  file_marks (Inspect names) files (capacity ∷ requests ∷ []) writes change status text pass work =
      subst (λ (l : List NamedBytes). HeadlineHolds (Inspect names) (capacity ∷ requests ∷ []) l change status text) (sym work.written)
      (work.season, work.made, work.printed)
  file_marks (Inspect names) files (capacity ∷ requests ∷ more ∷ rest) writes change status text pass work = absurd work
  file_marks (Serve names links port workers) files done writes change status text pass work = absurd work
  file_marks (Resume names links port workers) files done writes change status text pass work = absurd work
  file_marks (Make number units names) files done writes change status text pass work = tt
  file_marks (Trial number units) files [] writes change status text pass work =
      subst (λ (l : List NamedBytes). HeadlineHolds (Trial number units) [] l change status text) (sym work.written)
      (work.season, work.proved, work.printed, record { made = work.made; valid = work.valid; marks = marks work.season work.proved work.valid })
  file_marks (Trial number units) files (file ∷ rest) writes change status text pass work = absurd work

  service_marks : (names : List Word) (links port workers : ℕ) (done writes : List NamedBytes) (change : OutsideChange) (status : ℕ) (text : List ℕ) → ServiceWorks names links done writes change status text → HeadlineHolds (Serve names links port workers) done writes change status text
  service_marks names links port workers [] writes change status text work = absurd work
  service_marks names links port workers (capacity ∷ []) writes change status text work = absurd work
  service_marks names links port workers (capacity ∷ requests ∷ []) writes change status text work = absurd work
  service_marks names links port workers (capacity ∷ requests ∷ certificate ∷ []) writes change status text work =
      subst (λ (l : List NamedBytes). HeadlineHolds (Serve names links port workers) (capacity ∷ requests ∷ certificate ∷ []) l change status text) (sym work.written)
      (work.season, work.proved, work.spelled, record { made = work.made; valid = work.valid; marks = marks work.season work.proved work.valid }, work.output)
  service_marks names links port workers (capacity ∷ requests ∷ certificate ∷ more ∷ rest) writes change status text work = absurd work

  resume_marks : (names : List Word) (links port workers : ℕ) (done writes : List NamedBytes) (change : OutsideChange) (status : ℕ) (text : List ℕ) → ResumeWorks names links done writes change status text → HeadlineHolds (Resume names links port workers) done writes change status text
  resume_marks names links port workers [] writes change status text work = absurd work
  resume_marks names links port workers (capacity ∷ []) writes change status text work = absurd work
  resume_marks names links port workers (capacity ∷ requests ∷ []) writes change status text work = absurd work
  resume_marks names links port workers (capacity ∷ requests ∷ certificate ∷ []) writes change status text work =
      subst (λ (l : List NamedBytes). HeadlineHolds (Resume names links port workers) (capacity ∷ requests ∷ certificate ∷ []) l change status text) (sym work.written)
      (work.season, work.proved, work.spelled, record { made = work.made; valid = work.valid; marks = marks work.season work.proved work.valid }, work.output)
  resume_marks names links port workers (capacity ∷ requests ∷ certificate ∷ more ∷ rest) writes change status text work = absurd work

  work_marks : (job : Job) (files : Option Files) (done writes : List NamedBytes) (change : OutsideChange) (status : ℕ) (text : List ℕ) → AllPass files (steps_of job) done → Works job done writes change status text → HeadlineHolds job done writes change status text
  work_marks (Allocate names nodes workers) files done writes change status text pass work = file_marks (Allocate names nodes workers) files done writes change status text pass work.1
  work_marks (Check names) files done writes change status text pass work = file_marks (Check names) files done writes change status text pass work.1
  work_marks (Amend names) files done writes change status text pass work = file_marks (Amend names) files done writes change status text pass work.1
  work_marks (Usage names) files done writes change status text pass work = file_marks (Usage names) files done writes change status text pass work.1
  work_marks (Reclear names nodes workers) files done writes change status text pass work = file_marks (Reclear names nodes workers) files done writes change status text pass work.1
  work_marks (Recheck names) files done writes change status text pass work = file_marks (Recheck names) files done writes change status text pass work.1
  work_marks (ReportJob names) files done writes change status text pass work = file_marks (ReportJob names) files done writes change status text pass work.1
  work_marks (Inspect names) files done writes change status text pass work = file_marks (Inspect names) files done writes change status text pass work.1
  work_marks (Serve names links port workers) files done writes change status text pass work = service_marks names links port workers done writes change status text work
  work_marks (Resume names links port workers) files done writes change status text pass work = resume_marks names links port workers done writes change status text work
  work_marks (Make number units names) files done writes change status text pass work = file_marks (Make number units names) files done writes change status text pass work.1
  work_marks (Trial number units) files done writes change status text pass work = file_marks (Trial number units) files done writes change status text pass work.1

  pub marks_true : (job : Job) (w : World) (change : OutsideChange) (status : ℕ) (text : List ℕ) (v : World) → IsFinished job w change status text v
      → (done writes : List NamedBytes) × (v.log ≡ w.log ++ (map read_of done ++ map written_of writes)) × AreFilesOf job done writes × HeadlineHolds job done writes change status text
  marks_true job w change status text v done = (
    done.inputs,
    done.writes,
    done.log,
    files_of job w.files done.inputs done.writes change status text done.passed done.work,
    work_marks job w.files done.inputs done.writes change status text done.passed done.work,
  )
