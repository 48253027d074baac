-- The work of a job is done, or its writes are cut short.
use Rattle.std.proofs.Common.{◌≡◌, ℕ, ◌+◌, Bool, true, false, List, [], ◌∷◌, ◌++◌, map, Option, Some, None, refl, sym, ap, ◌∙◌, subst, append_assoc, arith, inl, inr}
use Rattle.std.specs.Prelude.{All, Contains, is_some, if◌then◌else◌, ◌||◌}
use Rattle.std.proofs.lemmas.Bool.{cases_Bool}
use Rattle.std.proofs.lemmas.List.{append-nil}
use Rattle.std.proofs.lemmas.List.Elements.{All-nil, All-cons, All-append, All-map}
use Rattle.desk_outside.specs.Cause.{Rose}
use Rattle.desk_outside.specs.Files.{Files, Writes, WritesPart}
use Rattle.desk_outside.specs.Passages.{Passage, wrote, write_failed}
use Rattle.command_words.specs.Words.{Word}
use Rattle.desk_commands.specs.Judgements.{NamedBytes}
use Rattle.desk_commands.specs.Steps.{names_read}
use Rattle.desk_commands.specs.Writing.{read_of, AreWritten}
use Rattle.desk_commands.specs.Jobs.{IsWithoutJournal, name_at, one_file, two_files, steps_of, names_written, recleared_statuses, served_statuses, resumed_statuses, finishing_of, FileWorks, ServiceWorks, ResumeWorks, Works}
use Rattle.desk_commands.specs.Outside.{OutsideChange, still, IsStill}
use Rattle.desk_commands.specs.Services.{some_ended, is_door_end, is_full_end, served_status}
use Rattle.desk_commands.specs.Resumed.{resumed_status}
use Rattle.session_desk.specs.declared.worker.DoorWork.{DoorWork}
use Rattle.desk_commands.specs.Desk.{World, LogGrew, OnlyOfJob, IsOfFiles}
use Rattle.desk_commands.specs.Leads.{Leads}
use Rattle.desk_commands.specs.Ends.{IsDoneBy, IsCutShort, StopsUnopened, JobStopsBy, JobStops}
use Rattle.cert_format.specs.declared.cert.Mark.{Mark}
use Rattle.cert_format.specs.declared.cert.Mark.TheVariants.{Optimal, Infeasible, Unsettled, NotTried}
use Rattle.desk_commands.specs.StageLines.{is_infeasible, is_open}
use Rattle.desk_commands.specs.Reports.{JournalRefusal}
use Rattle.desk_commands.specs.Stops.{StopLeads}
use Rattle.desk_commands.proofs.StageLemmas.{marks_among}
use Rattle.command_words.specs.declared.job.Job.{Job}
use Rattle.command_words.specs.declared.job.Job.TheVariants.{Allocate, Check, Amend, Serve, Resume, Usage, Reclear, Recheck, Report, Inspect, Make, Trial}
use Rattle.desk_commands.specs.declared.stop.Stop.{Stop}
use Rattle.desk_commands.specs.declared.stop.Stop.TheVariants as stops

-- ---- the status of work that is done

only_zero : (n : ℕ) → n ≡ 0 → Contains {X = ℕ} (0 ∷ []) n
only_zero n e = subst (λ (k : ℕ). Contains {X = ℕ} (0 ∷ []) k) (sym e) (0, omega arith, refl)

-- of one stage that is not INFEASIBLE
one_among : (mark : Mark) → (mark ≡ Infeasible → ⊥) → Contains recleared_statuses (if is_infeasible mark || false then 8 else (if is_open mark || false then 9 else 0))
one_among Optimal not = (0, omega arith, refl)
one_among Infeasible not = absurd (not refl)
one_among Unsettled not = (1, omega arith, refl)
one_among NotTried not = (0, omega arith, refl)

file_finishing : (job : Job) (inputs writes : List NamedBytes) (status : ℕ) (text : List ℕ) → FileWorks job inputs writes status text → Contains (finishing_of job) status
file_finishing (Allocate names nodes workers) [] writes status text work = absurd work
file_finishing (Allocate names nodes workers) (capacity ∷ []) writes status text work = absurd work
file_finishing (Allocate names nodes workers) (capacity ∷ requests ∷ []) writes status text work =
    subst (λ (n : ℕ). Contains (finishing_of (Allocate names nodes workers)) n) (sym work.output.status_is) (marks_among work.output.proved.stages)
file_finishing (Allocate names nodes workers) (capacity ∷ requests ∷ more ∷ rest) writes status text work = absurd work
file_finishing (Check names) [] writes status text work = absurd work
file_finishing (Check names) (capacity ∷ []) writes status text work = absurd work
file_finishing (Check names) (capacity ∷ requests ∷ []) writes status text work = absurd work
file_finishing (Check names) (capacity ∷ requests ∷ certificate ∷ []) writes status text work = only_zero status work.0
file_finishing (Check names) (capacity ∷ requests ∷ certificate ∷ more ∷ rest) writes status text work = absurd work
file_finishing (Amend names) [] writes status text work = absurd work
file_finishing (Amend names) (capacity ∷ []) writes status text work = absurd work
file_finishing (Amend names) (capacity ∷ requests ∷ []) writes status text work = absurd work
file_finishing (Amend names) (capacity ∷ requests ∷ certificate ∷ []) writes status text work = absurd work
file_finishing (Amend names) (capacity ∷ requests ∷ certificate ∷ asks ∷ []) writes status text work = only_zero status work.status_is
file_finishing (Amend names) (capacity ∷ requests ∷ certificate ∷ asks ∷ more ∷ rest) writes status text work = absurd work
file_finishing (Usage names) [] writes status text work = absurd work
file_finishing (Usage names) (capacity ∷ []) writes status text work = absurd work
file_finishing (Usage names) (capacity ∷ requests ∷ []) writes status text work = absurd work
file_finishing (Usage names) (capacity ∷ requests ∷ certificate ∷ []) writes status text work = absurd work
file_finishing (Usage names) (capacity ∷ requests ∷ certificate ∷ operated ∷ []) writes status text work = only_zero status work.status_is
file_finishing (Usage names) (capacity ∷ requests ∷ certificate ∷ operated ∷ more ∷ rest) writes status text work = absurd work
file_finishing (Reclear names nodes workers) [] writes status text work = absurd work
file_finishing (Reclear names nodes workers) (capacity ∷ []) writes status text work = absurd work
file_finishing (Reclear names nodes workers) (capacity ∷ requests ∷ []) writes status text work = absurd work
file_finishing (Reclear names nodes workers) (capacity ∷ requests ∷ certificate ∷ []) writes status text work = absurd work
file_finishing (Reclear names nodes workers) (capacity ∷ requests ∷ certificate ∷ asks ∷ []) writes status text work =
    let out = work.output.output in
    subst (λ (n : ℕ). Contains recleared_statuses n) (sym out.status_is) (one_among out.stage.mark out.feasible)
file_finishing (Reclear names nodes workers) (capacity ∷ requests ∷ certificate ∷ asks ∷ more ∷ rest) writes status text work = absurd work
file_finishing (Recheck names) [] writes status text work = absurd work
file_finishing (Recheck names) (capacity ∷ []) writes status text work = absurd work
file_finishing (Recheck names) (capacity ∷ requests ∷ []) writes status text work = absurd work
file_finishing (Recheck names) (capacity ∷ requests ∷ certificate ∷ []) writes status text work = absurd work
file_finishing (Recheck names) (capacity ∷ requests ∷ certificate ∷ asks ∷ []) writes status text work = absurd work
file_finishing (Recheck names) (capacity ∷ requests ∷ certificate ∷ asks ∷ extra ∷ []) writes status text work = only_zero status work.status_is
file_finishing (Recheck names) (capacity ∷ requests ∷ certificate ∷ asks ∷ extra ∷ more ∷ rest) writes status text work = absurd work
file_finishing (Report names) [] writes status text work = absurd work
file_finishing (Report names) (capacity ∷ []) writes status text work = absurd work
file_finishing (Report names) (capacity ∷ requests ∷ []) writes status text work = absurd work
file_finishing (Report names) (capacity ∷ requests ∷ certificate ∷ []) writes status text work = only_zero status work.status_is
file_finishing (Report names) (capacity ∷ requests ∷ certificate ∷ more ∷ rest) writes status text work = absurd work
file_finishing (Inspect names) [] writes status text work = absurd work
file_finishing (Inspect names) (capacity ∷ []) writes status text work = absurd work
file_finishing (Inspect names) (capacity ∷ requests ∷ []) writes status text work = only_zero status work.status_is
file_finishing (Inspect names) (capacity ∷ requests ∷ more ∷ rest) writes status text work = absurd work
file_finishing (Serve names links port workers) inputs writes status text work = absurd work
file_finishing (Resume names links port workers) inputs writes status text work = absurd work
file_finishing (Make number units names) [] writes status text work = only_zero status work.status_is
file_finishing (Make number units names) (file ∷ rest) writes status text work = absurd work
file_finishing (Trial number units) [] writes status text work =
    subst (λ (n : ℕ). Contains (finishing_of (Trial number units)) n) (sym work.status_is) (marks_among work.proved.stages)
file_finishing (Trial number units) (file ∷ rest) writes status text work = absurd work

served_among : (works : List DoorWork) → Contains served_statuses (served_status works)
served_among works =
    elim (cases_Bool (some_ended is_door_end works)) [
      | inl door ↦ rw door (1, omega arith, refl)
      | inr calm ↦ elim (cases_Bool (some_ended is_full_end works)) [
        | inl full ↦ rw (calm, full) (2, omega arith, refl)
        | inr free ↦ rw (calm, free) (0, omega arith, refl)
      ]
    ]

service_finishing : (names : List Word) (links : ℕ) (inputs writes : List NamedBytes) (change : OutsideChange) (status : ℕ) (text : List ℕ) → ServiceWorks names links inputs writes change status text → Contains served_statuses status
service_finishing names links [] writes change status text work = absurd work
service_finishing names links (capacity ∷ []) writes change status text work = absurd work
service_finishing names links (capacity ∷ requests ∷ []) writes change status text work = absurd work
service_finishing names links (capacity ∷ requests ∷ certificate ∷ []) writes change status text work =
    subst (λ (n : ℕ). Contains served_statuses n) (sym work.output.status_is) (served_among work.output.works)
service_finishing names links (capacity ∷ requests ∷ certificate ∷ more ∷ rest) writes change status text work = absurd work

resumed_among : (failed : Bool) (works : List DoorWork) → Contains resumed_statuses (resumed_status failed works)
resumed_among true works = (3, omega arith, refl)
resumed_among false works =
    elim (cases_Bool (some_ended is_door_end works)) [
      | inl door ↦ rw door (1, omega arith, refl)
      | inr calm ↦ elim (cases_Bool (some_ended is_full_end works)) [
        | inl full ↦ rw (calm, full) (2, omega arith, refl)
        | inr free ↦ rw (calm, free) (0, omega arith, refl)
      ]
    ]

resume_finishing : (names : List Word) (links : ℕ) (inputs writes : List NamedBytes) (change : OutsideChange) (status : ℕ) (text : List ℕ) → ResumeWorks names links inputs writes change status text → Contains resumed_statuses status
resume_finishing names links [] writes change status text work = absurd work
resume_finishing names links (capacity ∷ []) writes change status text work = absurd work
resume_finishing names links (capacity ∷ requests ∷ []) writes change status text work = absurd work
resume_finishing names links (capacity ∷ requests ∷ certificate ∷ []) writes change status text work =
    subst (λ (n : ℕ). Contains resumed_statuses n) (sym work.output.status_is) (resumed_among (is_some work.output.failed) work.output.works)
resume_finishing names links (capacity ∷ requests ∷ certificate ∷ more ∷ rest) writes change status text work = absurd work

pub works_finishing : (job : Job) (inputs writes : List NamedBytes) (change : OutsideChange) (status : ℕ) (text : List ℕ) → Works job inputs writes change status text → Contains (finishing_of job) status
works_finishing (Allocate names nodes workers) inputs writes change status text work = file_finishing (Allocate names nodes workers) inputs writes status text work.1
works_finishing (Check names) inputs writes change status text work = file_finishing (Check names) inputs writes status text work.1
works_finishing (Amend names) inputs writes change status text work = file_finishing (Amend names) inputs writes status text work.1
works_finishing (Usage names) inputs writes change status text work = file_finishing (Usage names) inputs writes status text work.1
works_finishing (Reclear names nodes workers) inputs writes change status text work = file_finishing (Reclear names nodes workers) inputs writes status text work.1
works_finishing (Recheck names) inputs writes change status text work = file_finishing (Recheck names) inputs writes status text work.1
works_finishing (Report names) inputs writes change status text work = file_finishing (Report names) inputs writes status text work.1
works_finishing (Inspect names) inputs writes change status text work = file_finishing (Inspect names) inputs writes status text work.1
works_finishing (Serve names links port workers) inputs writes change status text work = service_finishing names links inputs writes change status text work
works_finishing (Resume names links port workers) inputs writes change status text work = resume_finishing names links inputs writes change status text work
works_finishing (Make number units names) inputs writes change status text work = file_finishing (Make number units names) inputs writes status text work.1
works_finishing (Trial number units) inputs writes change status text work = file_finishing (Trial number units) inputs writes status text work.1

-- ---- a job stops as it does where nothing was written

pub stop_job_by : (names : List Word) (job : Job) (w : World) (change : OutsideChange) (v : World) (stop : Stop) → IsStill change → StopLeads names w (steps_of job) stop v → JobStopsBy names job w change stop v
stop_job_by names job w change v (stops.Missing place) same lead = (same, lead)
stop_job_by names job w change v (stops.Large place) same lead = (same, lead)
stop_job_by names job w change v (stops.Unread place) same lead = (same, lead)
stop_job_by names job w change v (stops.Unwritten place) same lead = absurd lead
stop_job_by names job w change v (stops.OutOfForm place line) same lead = (same, lead)
stop_job_by names job w change v (stops.OverLimit limit number) same lead = (same, lead)
stop_job_by names job w change v (stops.NotValid line reason) same lead = (same, lead)
stop_job_by names job w change v (stops.Unopened why) same lead = absurd lead
stop_job_by names job w change v stops.NoNext same lead = (same, lead)
stop_job_by names job w change v (stops.ExtraFails line reason) same lead = (same, lead)
stop_job_by names job w change v (stops.BadForm place line cause) same lead = (same, lead)
stop_job_by names job w change v (stops.PastLimit limit number cause) same lead = (same, lead)
stop_job_by names job w change v stops.Memory same lead = lead

pub stop_job : (names : List Word) (job : Job) (w v : World) (stop : Stop) → StopLeads names w (steps_of job) stop v → JobStops names job w stop v
stop_job names job w v stop lead = λ o. stop_job_by names job w (still o) v stop refl lead

-- ---- names of files

pub only_name : (name : Word) → Contains (name ∷ []) name
only_name name = (0, omega arith, refl)

pub first_of_two : (one two : Word) → Contains (one ∷ two ∷ []) one
first_of_two one two = (0, omega arith, refl)

pub second_of_two : (one two : Word) → Contains (one ∷ two ∷ []) two
second_of_two one two = (1, omega arith, refl)

-- ---- all steps passed, and the files are these

module _ (job : Job) (w v : World) (inputs : List NamedBytes) (lead : Leads w (steps_of job) inputs [] v) (change : OutsideChange) where
  abbrev P : Passage → Type 0
  P = IsOfFiles (names_read (steps_of job)) (names_written job)

  reads_asked : All P (map read_of inputs)
  reads_asked = All-map P read_of inputs lead.named

  none_written : (files after : Option Files) → after ≡ files → AreWritten files [] after
  none_written None after e = tt
  none_written (Some held) after e = e

  -- nothing is written
  pub read_done : (status : ℕ) (text : List ℕ) → Works job inputs [] change status text → IsDoneBy job w change status text v
  read_done status text work = record {
    finished = record {
      inputs = inputs;
      writes = [];
      passed = lead.pass inputs refl;
      work = work;
      calm = lead.faults;
      log = lead.log ∙ ap (λ (l : List Passage). w.log ++ l) (sym (append-nil (map read_of inputs)));
      files = none_written w.files v.files lead.files;
    };
    finishing = works_finishing job inputs [] change status text work;
    asked = (map read_of inputs, lead.log, reads_asked);
    told = lead.told;
  }

  -- nothing is written, since the journal was not opened
  pub unopened_stops : (why : JournalRefusal) → IsWithoutJournal job inputs change why → StopsUnopened job w change why v
  unopened_stops why refused = record {
    unopened = record {
      inputs = inputs;
      passed = lead.pass inputs refl;
      refused = refused;
      calm = lead.faults;
      log = lead.log;
      files = lead.files;
    };
    asked = (map read_of inputs, lead.log, reads_asked);
    told = lead.told;
  }

  log_on : (u : World) (passed : List Passage) → u.log ≡ v.log ++ passed → u.log ≡ w.log ++ (map read_of inputs ++ passed)
  log_on u passed e = e ∙ (ap (λ (l : List Passage). l ++ passed) lead.log ∙ append_assoc w.log (map read_of inputs) passed)

  rose_from : (u : World) → Rose v.faults u.faults → Rose w.faults u.faults
  rose_from u rose = subst (λ (n : ℕ). Rose n u.faults) lead.faults rose

  one_passed : (passage : Passage) → P passage → All P (passage ∷ [])
  one_passed passage is = All-cons P passage [] is (All-nil P)

  grew : (u : World) (passed : List Passage) → u.log ≡ v.log ++ passed → All P passed → LogGrew w.log (OnlyOfJob (Some job)) u.log
  grew u passed e all = (map read_of inputs ++ passed, log_on u passed e, All-append P (map read_of inputs) passed reads_asked all)

  -- one file is written
  module _ (status : ℕ) (text : List ℕ) (names : List Word) (place : ℕ) (bytes : List ℕ) (named : names_written job ≡ name_at names place ∷ []) (work : Works job inputs (one_file names place bytes) change status text) where
    is_named : Contains (names_written job) (name_at names place)
    is_named = subst (λ (l : List Word). Contains l (name_at names place)) (sym named) (only_name (name_at names place))

    pub only_failed : (u : World) → WritesPart v.files (name_at names place) bytes u.files → Rose v.faults u.faults → u.log ≡ v.log ++ write_failed (name_at names place) bytes ∷ [] → IsCutShort job w change (name_at names place) u
    only_failed u part rose log =
        let failed : Passage = write_failed (name_at names place) bytes in
        record {
          unwritten = record {
            inputs = inputs;
            writes = one_file names place bytes;
            status = status;
            text = text;
            tried = failed ∷ [];
            passed = lead.pass inputs refl;
            work = work;
            rose = rose_from u rose;
            stops = inl (refl, subst (λ (o : Option Files). WritesPart o (name_at names place) bytes u.files) lead.files part, refl);
            log = log_on u (failed ∷ []) log;
          };
          asked = grew u (failed ∷ []) log (one_passed failed is_named);
        }

    is_written : (before after : Option Files) (name : Word) → Writes before name bytes after → AreWritten before (record { name = name; bytes = bytes } ∷ []) after
    is_written None after name x = tt
    is_written (Some held) after name x = x

    pub only_written : (u : World) → Writes v.files (name_at names place) bytes u.files → u.faults ≡ v.faults → u.log ≡ v.log ++ wrote (name_at names place) bytes ∷ [] → IsDoneBy job w change status text u
    only_written u done quiet log =
        let passed : Passage = wrote (name_at names place) bytes in
        record {
          finished = record {
            inputs = inputs;
            writes = one_file names place bytes;
            passed = lead.pass inputs refl;
            work = work;
            calm = quiet ∙ lead.faults;
            log = log_on u (passed ∷ []) log;
            files = is_written w.files u.files (name_at names place) (subst (λ (o : Option Files). Writes o (name_at names place) bytes u.files) lead.files done);
          };
          finishing = works_finishing job inputs (one_file names place bytes) change status text work;
          asked = grew u (passed ∷ []) log (one_passed passed is_named);
          told = lead.told;
        }

  -- two files are written
  module _ (status : ℕ) (text : List ℕ) (names : List Word) (place : ℕ) (one two : List ℕ) (named : names_written job ≡ name_at names place ∷ name_at names (place + 1) ∷ []) (work : Works job inputs (two_files names place one two) change status text) where
    abbrev first : Word
    first = name_at names place

    abbrev second : Word
    second = name_at names (place + 1)

    kept : (name : Word) → Contains (first ∷ second ∷ []) name → Contains (names_written job) name
    kept name is = subst (λ (l : List Word). Contains l name) (sym named) is

    first_wrote : P (wrote first one)
    first_wrote = kept first (first_of_two first second)

    first_tried : P (write_failed first one)
    first_tried = kept first (first_of_two first second)

    second_wrote : P (wrote second two)
    second_wrote = kept second (second_of_two first second)

    second_tried : P (write_failed second two)
    second_tried = kept second (second_of_two first second)

    pub first_failed : (u : World) → WritesPart v.files first one u.files → Rose v.faults u.faults → u.log ≡ v.log ++ write_failed first one ∷ [] → IsCutShort job w change first u
    first_failed u part rose log = record {
      unwritten = record {
        inputs = inputs;
        writes = two_files names place one two;
        status = status;
        text = text;
        tried = write_failed first one ∷ [];
        passed = lead.pass inputs refl;
        work = work;
        rose = rose_from u rose;
        stops = inl (refl, subst (λ (o : Option Files). WritesPart o first one u.files) lead.files part, refl);
        log = log_on u (write_failed first one ∷ []) log;
      };
      asked = grew u (write_failed first one ∷ []) log (one_passed (write_failed first one) first_tried);
    }

    -- the first was written
    module _ (x : World) (written : Writes v.files first one x.files) (calm : x.faults ≡ v.faults) (log : x.log ≡ v.log ++ wrote first one ∷ []) where
      log_after : (u : World) (passage : Passage) → u.log ≡ x.log ++ passage ∷ [] → u.log ≡ v.log ++ wrote first one ∷ passage ∷ []
      log_after u passage e = e ∙ (ap (λ (l : List Passage). l ++ passage ∷ []) log ∙ append_assoc v.log (wrote first one ∷ []) (passage ∷ []))

      written_here : Writes w.files first one x.files
      written_here = subst (λ (o : Option Files). Writes o first one x.files) lead.files written

      pub second_failed : (u : World) → WritesPart x.files second two u.files → Rose x.faults u.faults → u.log ≡ x.log ++ write_failed second two ∷ [] → IsCutShort job w change second u
      second_failed u part rose more = record {
        unwritten = record {
          inputs = inputs;
          writes = two_files names place one two;
          status = status;
          text = text;
          tried = wrote first one ∷ write_failed second two ∷ [];
          passed = lead.pass inputs refl;
          work = work;
          rose = rose_from u (subst (λ (n : ℕ). Rose n u.faults) calm rose);
          stops = inr (x.files, write_failed second two ∷ [], written_here, inl (refl, part, refl), refl);
          log = log_on u (wrote first one ∷ write_failed second two ∷ []) (log_after u (write_failed second two) more);
        };
        asked = grew u (wrote first one ∷ write_failed second two ∷ []) (log_after u (write_failed second two) more)
            (All-cons P (wrote first one) (write_failed second two ∷ []) first_wrote (one_passed (write_failed second two) second_tried));
      }

      are_written : (before between after : Option Files) (a b : NamedBytes) → Writes before a.name a.bytes between → Writes between b.name b.bytes after → AreWritten before (a ∷ b ∷ []) after
      are_written None between after a b x y = tt
      are_written (Some held) between after a b x y = subst (λ (o : Option Files). Writes o b.name b.bytes after) x y

      pub both_written : (u : World) → Writes x.files second two u.files → u.faults ≡ x.faults → u.log ≡ x.log ++ wrote second two ∷ [] → IsDoneBy job w change status text u
      both_written u done quiet more = record {
        finished = record {
          inputs = inputs;
          writes = two_files names place one two;
          passed = lead.pass inputs refl;
          work = work;
          calm = quiet ∙ calm ∙ lead.faults;
          log = log_on u (wrote first one ∷ wrote second two ∷ []) (log_after u (wrote second two) more);
          files = are_written w.files x.files u.files (record { name = first; bytes = one }) (record { name = second; bytes = two }) written_here done;
        };
        finishing = works_finishing job inputs (two_files names place one two) change status text work;
        asked = grew u (wrote first one ∷ wrote second two ∷ []) (log_after u (wrote second two) more)
            (All-cons P (wrote first one) (wrote second two ∷ []) first_wrote (one_passed (wrote second two) second_wrote));
        told = lead.told;
      }
