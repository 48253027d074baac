use Rattle.std.proofs.Common.{◌≡◌, ◌∷◌, [], ◌++◌, sym, ◌∙◌, ap, subst, refl, inl, inr, ℕ, arith, rules}
use Rattle.std.specs.Prelude.{◌⊎◌, Contains}
use Rattle.desk_outside.specs.Bytes.{Puts}
use Rattle.desk_outside.specs.Passages.{put}
use Rattle.command_words.specs.Words.{words_of}
use Rattle.command_words.specs.Jobs.{job_of}
use Rattle.desk_commands.specs.Reports.{Report, status_of, text_of}
use Rattle.slot_program.proofs.JournalLemmas.{Standings}
use Rattle.desk_commands.specs.Jobs.{calm_statuses, served_statuses, finishing_of, HeadlineHolds}
use Rattle.desk_commands.specs.Outside.{OutsideChange, outside_change}
use Rattle.desk_commands.specs.Desk.{World, world_of, IsFinished, IsStatus}
use Rattle.slot_program.proofs.DeskLemmas.{is_status, not_six, not_seven, is_finished, marks_true, told_exact, finishing_not, is_calm, not_calm, two_is_none, disk_is_calm, disk_has_risen, ends_unopened, job_ends, job_said, job_serves, doors_calm, door_risen, none_ends}
use Rattle.slot_program.proofs.top_call.desk.Goals as goal

pub returns-in-Ok-put-clause-statuses : goal.returns-in-Ok-put-clause-statuses
returns-in-Ok-put-clause-statuses g c =
    let a = c.in-Ok.ensures.answer in
    subst (λ (n : ℕ). IsStatus n) (sym a.status_is) (is_status c.ended_jobs.ensures.finishing (job_of (words_of c.args.words.now)) _ _ a.report _ a.ends)

pub returns-in-Ok-put-clause-headline : goal.returns-in-Ok-put-clause-headline
returns-in-Ok-put-clause-headline g c = λ job e one not.
    let w : World = world_of g.C.Cabinet.files g.C.Cabinet.fault_count g.C.Cabinet.log c.args.cabinet.now in
    let v : World = world_of g.C.Cabinet.files g.C.Cabinet.fault_count g.C.Cabinet.log c.carry_out.new.cabinet in
    let change : OutsideChange = outside_change g.D.Door.view g.K.Disk.view c.args.doors.now.items c.args.disk.now c.carry_out.new.doors.items c.carry_out.new.disk in
    let a = c.in-Ok.ensures.answer in
    let marked = marks_true c.valid_marks.ensures c.waiting_marks.ensures c.allotted_fit.ensures.proved job w change (status_of a.report) (text_of a.report) v
    (is_finished (job_of (words_of c.args.words.now)) job w change a.report v e (subst (λ (n : ℕ). Contains (finishing_of job) n) a.status_is one) (λ bad. not (a.status_is ∙ bad)) a.ends) in
    let logs : g.S.Sink.log c.put.new.self ≡ g.S.Sink.log c.args.out.now ++ put (text_of a.report) ∷ [] = search rules in
    (marked.0, marked.1, text_of a.report, marked.2, logs, marked.3, subst (λ (n : ℕ). HeadlineHolds job marked.0 marked.1 change n (text_of a.report)) (sym a.status_is) marked.4)

pub returns-in-Ok-put-clause-handed : goal.returns-in-Ok-put-clause-handed
returns-in-Ok-put-clause-handed g c = λ job e one not.
    let w : World = world_of g.C.Cabinet.files g.C.Cabinet.fault_count g.C.Cabinet.log c.args.cabinet.now in
    let v : World = world_of g.C.Cabinet.files g.C.Cabinet.fault_count g.C.Cabinet.log c.carry_out.new.cabinet in
    let change : OutsideChange = outside_change g.D.Door.view g.K.Disk.view c.args.doors.now.items c.args.disk.now c.carry_out.new.doors.items c.carry_out.new.disk in
    let a = c.in-Ok.ensures.answer in
    let done : IsFinished job w change (status_of a.report) (text_of a.report) v =
    is_finished (job_of (words_of c.args.words.now)) job w change a.report v e (subst (λ (n : ℕ). Contains (finishing_of job) n) a.status_is one) (λ bad. not (a.status_is ∙ bad)) a.ends in
    (text_of a.report, subst (λ (n : ℕ). IsFinished job w change n (text_of a.report) v) (sym a.status_is) done, search rules, search rules)

pub returns-in-Ok-put-clause-done : goal.returns-in-Ok-put-clause-done
returns-in-Ok-put-clause-done g c = λ one.
    let w : World = world_of g.C.Cabinet.files g.C.Cabinet.fault_count g.C.Cabinet.log c.args.cabinet.now in
    let v : World = world_of g.C.Cabinet.files g.C.Cabinet.fault_count g.C.Cabinet.log c.carry_out.new.cabinet in
    let change : OutsideChange = outside_change g.D.Door.view g.K.Disk.view c.args.doors.now.items c.args.disk.now c.carry_out.new.doors.items c.carry_out.new.disk in
    let a = c.in-Ok.ensures.answer in
    (is_calm (job_of (words_of c.args.words.now)) w change a.report v (subst (λ (n : ℕ). Contains calm_statuses n) a.status_is one) a.ends, search rules)

pub returns-in-Ok-clause-done : goal.returns-in-Ok-clause-done
returns-in-Ok-clause-done g c = λ one. absurd (not_calm 6 (omega arith) (omega arith) one)

pub returns-clause-done : goal.returns-clause-done
returns-clause-done g c = λ one. absurd (not_calm 7 (omega arith) (omega arith) one)

pub returns-in-Ok-put-clause-words : goal.returns-in-Ok-put-clause-words
returns-in-Ok-put-clause-words g c = λ e.
    let a = c.in-Ok.ensures.answer in
    two_is_none c.ended_jobs.ensures.finishing (job_of (words_of c.args.words.now)) _ _ a.report _ (sym a.status_is ∙ e) a.ends

pub returns-in-Ok-put-clause-due : goal.returns-in-Ok-put-clause-due
returns-in-Ok-put-clause-due g c = λ job held refusal e told is.
    let w : World = world_of g.C.Cabinet.files g.C.Cabinet.fault_count g.C.Cabinet.log c.args.cabinet.now in
    let v : World = world_of g.C.Cabinet.files g.C.Cabinet.fault_count g.C.Cabinet.log c.carry_out.new.cabinet in
    let change : OutsideChange = outside_change g.D.Door.view g.K.Disk.view c.args.doors.now.items c.args.disk.now c.carry_out.new.doors.items c.carry_out.new.disk in
    let a = c.in-Ok.ensures.answer in
    let exact = told_exact (job_of (words_of c.args.words.now)) job w a.report v held e told a.exact in
    let puts : Puts (g.S.Sink.contents c.args.out.now) (text_of a.report) (g.S.Sink.contents c.put.new.self) = search rules in
    let logs : g.S.Sink.log c.put.new.self ≡ g.S.Sink.log c.args.out.now ++ put (text_of a.report) ∷ [] = search rules in
    elim (exact.due refusal is) [
      | inl same ↦ inl (
        a.status_is ∙ ap status_of same,
        subst (λ (r : Report). Puts (g.S.Sink.contents c.args.out.now) (text_of r) (g.S.Sink.contents c.put.new.self)) same puts,
        subst (λ (r : Report). g.S.Sink.log c.put.new.self ≡ g.S.Sink.log c.args.out.now ++ put (text_of r) ∷ []) same logs,
      )
      | inr failed ↦ inr (inl (a.status_is ∙ failed.0, failed.1))
    ]

pub returns-in-Ok-put-clause-complete : goal.returns-in-Ok-put-clause-complete
returns-in-Ok-put-clause-complete g c = λ job held inputs e told pass calm quiet.
    let w : World = world_of g.C.Cabinet.files g.C.Cabinet.fault_count g.C.Cabinet.log c.args.cabinet.now in
    let v : World = world_of g.C.Cabinet.files g.C.Cabinet.fault_count g.C.Cabinet.log c.carry_out.new.cabinet in
    let change : OutsideChange = outside_change g.D.Door.view g.K.Disk.view c.args.doors.now.items c.args.disk.now c.carry_out.new.doors.items c.carry_out.new.disk in
    let a = c.in-Ok.ensures.answer in
    let exact = told_exact (job_of (words_of c.args.words.now)) job w a.report v held e told a.exact in
    elim (exact.whole inputs pass) [
      | inl (inl one) ↦ inl (inl (subst (λ (n : ℕ). Contains (finishing_of job) n) (sym a.status_is) one))
      | inl (inr un) ↦ inr (un.0, a.status_is ∙ ap status_of un.1, ends_unopened (job_of (words_of c.args.words.now)) job w change a.report v un.0 e un.1 a.ends)
      | inr rose ↦ absurd (calm rose)
    ]

pub returns-in-Ok-put-clause-in_form : goal.returns-in-Ok-put-clause-in_form
returns-in-Ok-put-clause-in_form g c = λ job held inputs e told pass calm quiet.
    let w : World = world_of g.C.Cabinet.files g.C.Cabinet.fault_count g.C.Cabinet.log c.args.cabinet.now in
    let v : World = world_of g.C.Cabinet.files g.C.Cabinet.fault_count g.C.Cabinet.log c.carry_out.new.cabinet in
    let change : OutsideChange = outside_change g.D.Door.view g.K.Disk.view c.args.doors.now.items c.args.disk.now c.carry_out.new.doors.items c.carry_out.new.disk in
    let a = c.in-Ok.ensures.answer in
    let exact = told_exact (job_of (words_of c.args.words.now)) job w a.report v held e told a.exact in
    elim (exact.forms inputs pass) [
      | inl one ↦ inl (inl (a.status_is ∙ one))
      | inr (inl (inl one)) ↦ inl (inr (inl (subst (λ (n : ℕ). Contains (finishing_of job) n) (sym a.status_is) one)))
      | inr (inl (inr un)) ↦ inr (un.0, a.status_is ∙ ap status_of un.1, ends_unopened (job_of (words_of c.args.words.now)) job w change a.report v un.0 e un.1 a.ends)
      | inr (inr rose) ↦ absurd (calm rose)
    ]

pub returns-in-Ok-clause-statuses : goal.returns-in-Ok-clause-statuses
returns-in-Ok-clause-statuses g c = (6, omega arith, refl)

pub returns-in-Ok-clause-headline : goal.returns-in-Ok-clause-headline
returns-in-Ok-clause-headline g c = λ job e one not. absurd (finishing_not job 6 (omega arith) (omega arith) one)

pub returns-in-Ok-clause-handed : goal.returns-in-Ok-clause-handed
returns-in-Ok-clause-handed g c = λ job e one not. absurd (finishing_not job 6 (omega arith) (omega arith) one)

pub returns-clause-headline : goal.returns-clause-headline
returns-clause-headline g c = λ job e one not. absurd (finishing_not job 7 (omega arith) (omega arith) one)

pub returns-clause-handed : goal.returns-clause-handed
returns-clause-handed g c = λ job e one not. absurd (finishing_not job 7 (omega arith) (omega arith) one)

pub returns-clause-statuses : goal.returns-clause-statuses
returns-clause-statuses g c = (7, omega arith, refl)

pub returns-in-Ok-put-clause-cut : goal.returns-in-Ok-put-clause-cut
returns-in-Ok-put-clause-cut g c = λ e.
    let a = c.in-Ok.ensures.answer in
    absurd (not_six c.ended_jobs.ensures.finishing (job_of (words_of c.args.words.now)) _ _ a.report _ (sym a.status_is ∙ e) a.ends)

pub returns-in-Ok-put-clause-calm : goal.returns-in-Ok-put-clause-calm
returns-in-Ok-put-clause-calm g c = λ one.
    let a = c.in-Ok.ensures.answer in
    doors_calm (job_of (words_of c.args.words.now)) _ _ a.report _ (subst (λ (n : ℕ). (n ≡ 0) ⊎ (n ≡ 11)) a.status_is one) a.ends

pub returns-in-Ok-put-clause-risen : goal.returns-in-Ok-put-clause-risen
returns-in-Ok-put-clause-risen g c = λ ten.
    let a = c.in-Ok.ensures.answer in
    door_risen c.ended_jobs.ensures.finishing (job_of (words_of c.args.words.now)) _ _ a.report _ (sym a.status_is ∙ ten) a.ends

pub returns-in-Ok-clause-calm : goal.returns-in-Ok-clause-calm
returns-in-Ok-clause-calm g c = λ one. elim one [ inl bad ↦ absurd (omega (arith, bad)) | inr bad ↦ absurd (omega (arith, bad)) ]

pub returns-in-Ok-clause-risen : goal.returns-in-Ok-clause-risen
returns-in-Ok-clause-risen g c = λ bad. absurd (omega (arith, bad))

pub returns-clause-calm : goal.returns-clause-calm
returns-clause-calm g c = λ one. elim one [ inl bad ↦ absurd (omega (arith, bad)) | inr bad ↦ absurd (omega (arith, bad)) ]

pub returns-clause-risen : goal.returns-clause-risen
returns-clause-risen g c = λ bad. absurd (omega (arith, bad))

pub returns-in-Ok-put-clause-refused : goal.returns-in-Ok-put-clause-refused
returns-in-Ok-put-clause-refused g c = λ e.
    let a = c.in-Ok.ensures.answer in
    let n = none_ends (job_of (words_of c.args.words.now)) _ _ a.report _ e a.ends in
    (n.0, n.1, inl (a.status_is ∙ n.2))

pub returns-in-Ok-clause-refused : goal.returns-in-Ok-clause-refused
returns-in-Ok-clause-refused g c = λ e.
    let same = c.carry_out.ensures.refused e in
    (same.0, rw (same.1, same.2) refl, inr (inl refl))

pub returns-clause-refused : goal.returns-clause-refused
returns-clause-refused g c = λ e.
    let same = c.carry_out.ensures.refused e in
    (same.0, rw (same.1, same.2) refl, inr (inr refl))

pub returns-in-Ok-put-clause-disk_calm : goal.returns-in-Ok-put-clause-disk_calm
returns-in-Ok-put-clause-disk_calm g c = λ five six seven fourteen.
    let a = c.in-Ok.ensures.answer in
    disk_is_calm (job_of (words_of c.args.words.now)) _ _ a.report _ (λ is. five (a.status_is ∙ is)) (λ is. fourteen (a.status_is ∙ is)) a.ends

pub returns-in-Ok-clause-disk_calm : goal.returns-in-Ok-clause-disk_calm
returns-in-Ok-clause-disk_calm g c = λ five six seven fourteen. absurd (six refl)

pub returns-clause-disk_calm : goal.returns-clause-disk_calm
returns-clause-disk_calm g c = λ five six seven fourteen. absurd (seven refl)

pub returns-in-Ok-put-clause-disk_risen : goal.returns-in-Ok-put-clause-disk_risen
returns-in-Ok-put-clause-disk_risen g c = λ fourteen.
    let w : World = world_of g.C.Cabinet.files g.C.Cabinet.fault_count g.C.Cabinet.log c.args.cabinet.now in
    let v : World = world_of g.C.Cabinet.files g.C.Cabinet.fault_count g.C.Cabinet.log c.carry_out.new.cabinet in
    let change : OutsideChange = outside_change g.D.Door.view g.K.Disk.view c.args.doors.now.items c.args.disk.now c.carry_out.new.doors.items c.carry_out.new.disk in
    let a = c.in-Ok.ensures.answer in
    let r = disk_has_risen c.ended_jobs.ensures.finishing (job_of (words_of c.args.words.now)) w change a.report v (sym a.status_is ∙ fourteen) a.ends in
    let logs : g.S.Sink.log c.put.new.self ≡ g.S.Sink.log c.args.out.now ++ put (text_of a.report) ∷ [] = search rules in (
      r.2,
      (
        r.0,
        r.1,
        elim r.3 [
          | inl un ↦ inl (un.0, un.2)
          | inr done ↦ inr (text_of a.report, subst (λ (n : ℕ). IsFinished r.0 w change n (text_of a.report) v) (sym fourteen) done, logs)
        ],
      ),
    )

pub returns-in-Ok-clause-disk_risen : goal.returns-in-Ok-clause-disk_risen
returns-in-Ok-clause-disk_risen g c = λ bad. absurd (omega (arith, bad))

pub returns-clause-disk_risen : goal.returns-clause-disk_risen
returns-clause-disk_risen g c = λ bad. absurd (omega (arith, bad))

pub returns-in-Ok-put-clause-journal : goal.returns-in-Ok-put-clause-journal
returns-in-Ok-put-clause-journal g c = λ job held inputs why e told pass calm quiet due.
    let w : World = world_of g.C.Cabinet.files g.C.Cabinet.fault_count g.C.Cabinet.log c.args.cabinet.now in
    let v : World = world_of g.C.Cabinet.files g.C.Cabinet.fault_count g.C.Cabinet.log c.carry_out.new.cabinet in
    let change : OutsideChange = outside_change g.D.Door.view g.K.Disk.view c.args.doors.now.items c.args.disk.now c.carry_out.new.doors.items c.carry_out.new.disk in
    let a = c.in-Ok.ensures.answer in
    let laws = c.one_standing.ensures in
    let law : Standings = record { not_other = laws.not_other; not_bad = laws.not_bad; one_fault = laws.one_fault; one_number = laws.one_number } in
    let exact = told_exact (job_of (words_of c.args.words.now)) job w a.report v held e told a.exact in
    let logs : g.S.Sink.log c.put.new.self ≡ g.S.Sink.log c.args.out.now ++ put (text_of a.report) ∷ [] = search rules in
    elim (exact.whole inputs pass) [
      | inl through ↦ elim (job_said job w change v law held inputs told pass a.report why through (job_ends (job_of (words_of c.args.words.now)) job w change a.report v e a.ends) due) [
        | inl is ↦ inl (
          a.status_is ∙ ap status_of is,
          subst (λ (r : Report). g.S.Sink.log c.put.new.self ≡ g.S.Sink.log c.args.out.now ++ put (text_of r) ∷ []) is logs,
        )
        | inr fourteen ↦ inr (inl (a.status_is ∙ fourteen))
      ]
      | inr rose ↦ absurd (calm rose)
    ]

pub returns-in-Ok-put-clause-resumes : goal.returns-in-Ok-put-clause-resumes
returns-in-Ok-put-clause-resumes g c = λ job held inputs e told pass calm quiet still stands.
    let w : World = world_of g.C.Cabinet.files g.C.Cabinet.fault_count g.C.Cabinet.log c.args.cabinet.now in
    let v : World = world_of g.C.Cabinet.files g.C.Cabinet.fault_count g.C.Cabinet.log c.carry_out.new.cabinet in
    let change : OutsideChange = outside_change g.D.Door.view g.K.Disk.view c.args.doors.now.items c.args.disk.now c.carry_out.new.doors.items c.carry_out.new.disk in
    let a = c.in-Ok.ensures.answer in
    let laws = c.one_standing.ensures in
    let law : Standings = record { not_other = laws.not_other; not_bad = laws.not_bad; one_fault = laws.one_fault; one_number = laws.one_number } in
    let exact = told_exact (job_of (words_of c.args.words.now)) job w a.report v held e told a.exact in
    elim (exact.whole inputs pass) [
      | inl through ↦ inl (subst (λ (n : ℕ). Contains served_statuses n) (sym a.status_is)
          (job_serves job w change v law held inputs told pass c.ended_jobs.ensures.finishing a.report through (job_ends (job_of (words_of c.args.words.now)) job w change a.report v e a.ends) stands still))
      | inr rose ↦ absurd (calm rose)
    ]

pub returns-in-Ok-put-clause-unsaid : goal.returns-in-Ok-put-clause-unsaid
returns-in-Ok-put-clause-unsaid g c = λ e.
    let a = c.in-Ok.ensures.answer in
    absurd (not_seven c.ended_jobs.ensures.finishing (job_of (words_of c.args.words.now)) _ _ a.report _ (sym a.status_is ∙ e) a.ends)

pub returns-in-Ok-clause-unsaid : goal.returns-in-Ok-clause-unsaid
returns-in-Ok-clause-unsaid g c = λ bad. absurd (omega (arith, bad))
