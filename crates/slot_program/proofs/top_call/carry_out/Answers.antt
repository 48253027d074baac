use Rattle.std.proofs.Common.{sym, ap, ◌∙◌, subst, Option, Some, rules}
use Rattle.std.specs.Prelude.{IfOk}
use Rattle.desk_commands.specs.Outside.{Outside, still, outside_of, outside_change}
use Rattle.desk_commands.specs.Answers.{IsAnswer}
use Rattle.desk_commands.specs.Desk.{World, world_of, LogGrew, OnlyOfJob}
use Rattle.command_words.specs.declared.job.Job.{Job}
use Rattle.command_words.specs.Words.{words_of}
use Rattle.command_words.specs.Jobs.{job_of}
use Rattle.slot_program.proofs.OutsideLemmas.{ok_tried}
use Rattle.slot_program.proofs.WordLemmas.{nothing_asked, no_words, words_answer}
use Rattle.slot_program.proofs.top_call.carry_out.Goals as goal

pub returns-in-Ok-Allocate-clause-asked : goal.returns-in-Ok-Allocate-clause-asked
returns-in-Ok-Allocate-clause-asked g c =
    subst (λ (o : Option Job). LogGrew (g.C.Cabinet.log c.args.cabinet.now) (OnlyOfJob o) (g.C.Cabinet.log c.carry_out_allocate.new.cabinet)) (sym (c.in-Ok-Allocate.ensures.found ∙ ap Some c.in-Ok-Allocate.field-0-is))
    c.carry_out_allocate.ensures.asked

pub returns-in-Ok-Amend-clause-asked : goal.returns-in-Ok-Amend-clause-asked
returns-in-Ok-Amend-clause-asked g c =
    subst (λ (o : Option Job). LogGrew (g.C.Cabinet.log c.args.cabinet.now) (OnlyOfJob o) (g.C.Cabinet.log c.carry_out_amend.new.cabinet)) (sym (c.in-Ok-Amend.ensures.found ∙ ap Some c.in-Ok-Amend.field-0-is))
    c.carry_out_amend.ensures.asked

pub returns-in-Ok-Usage-clause-asked : goal.returns-in-Ok-Usage-clause-asked
returns-in-Ok-Usage-clause-asked g c =
    subst (λ (o : Option Job). LogGrew (g.C.Cabinet.log c.args.cabinet.now) (OnlyOfJob o) (g.C.Cabinet.log c.carry_out_usage.new.cabinet)) (sym (c.in-Ok-Usage.ensures.found ∙ ap Some c.in-Ok-Usage.field-0-is))
    c.carry_out_usage.ensures.asked

pub returns-in-Ok-Report-clause-asked : goal.returns-in-Ok-Report-clause-asked
returns-in-Ok-Report-clause-asked g c =
    subst (λ (o : Option Job). LogGrew (g.C.Cabinet.log c.args.cabinet.now) (OnlyOfJob o) (g.C.Cabinet.log c.carry_out_report.new.cabinet)) (sym (c.in-Ok-Report.ensures.found ∙ ap Some c.in-Ok-Report.field-0-is))
    c.carry_out_report.ensures.asked

pub returns-in-Ok-Inspect-clause-asked : goal.returns-in-Ok-Inspect-clause-asked
returns-in-Ok-Inspect-clause-asked g c =
    subst (λ (o : Option Job). LogGrew (g.C.Cabinet.log c.args.cabinet.now) (OnlyOfJob o) (g.C.Cabinet.log c.carry_out_inspect.new.cabinet)) (sym (c.in-Ok-Inspect.ensures.found ∙ ap Some c.in-Ok-Inspect.field-0-is))
    c.carry_out_inspect.ensures.asked

pub returns-in-Ok-Check-clause-asked : goal.returns-in-Ok-Check-clause-asked
returns-in-Ok-Check-clause-asked g c =
    subst (λ (o : Option Job). LogGrew (g.C.Cabinet.log c.args.cabinet.now) (OnlyOfJob o) (g.C.Cabinet.log c.carry_out_check.new.cabinet)) (sym (c.in-Ok-Check.ensures.found ∙ ap Some c.in-Ok-Check.field-0-is))
    c.carry_out_check.ensures.asked

pub returns-in-Ok-Make-clause-asked : goal.returns-in-Ok-Make-clause-asked
returns-in-Ok-Make-clause-asked g c =
    subst (λ (o : Option Job). LogGrew (g.C.Cabinet.log c.args.cabinet.now) (OnlyOfJob o) (g.C.Cabinet.log c.carry_out_make.new.cabinet)) (sym (c.in-Ok-Make.ensures.found ∙ ap Some c.in-Ok-Make.field-0-is))
    c.carry_out_make.ensures.asked

pub returns-in_err-from_str-in-Err-Words-clause-asked : goal.returns-in_err-from_str-in-Err-Words-clause-asked
returns-in_err-from_str-in-Err-Words-clause-asked g c = nothing_asked (job_of (words_of c.args.words.now)) (g.C.Cabinet.log c.args.cabinet.now)

pub returns-in_ok-from_str-in-Err-Words-clause-asked : goal.returns-in_ok-from_str-in-Err-Words-clause-asked
returns-in_ok-from_str-in-Err-Words-clause-asked g c = nothing_asked (job_of (words_of c.args.words.now)) (g.C.Cabinet.log c.args.cabinet.now)

pub returns-in_ok-from_str-in-Err-Words-clause-answer : goal.returns-in_ok-from_str-in-Err-Words-clause-answer
returns-in_ok-from_str-in-Err-Words-clause-answer g c =
    let w : World = world_of g.C.Cabinet.files g.C.Cabinet.fault_count g.C.Cabinet.log c.args.cabinet.now in
    let o : Outside = outside_of g.D.Door.view g.K.Disk.view c.args.doors.now.items c.args.disk.now in
    words_answer (job_of (words_of c.args.words.now)) w o _ (λ job found. no_words c.in-Err-Words.field-0 job c.in-Err-Words.field-0-is (c.in-Err-Words.ensures.only job found)) (search rules)

pub returns-in-Err-Memory-clause-asked : goal.returns-in-Err-Memory-clause-asked
returns-in-Err-Memory-clause-asked g c = nothing_asked (job_of (words_of c.args.words.now)) (g.C.Cabinet.log c.args.cabinet.now)

pub returns-in-Ok-Allocate-clause-answer : goal.returns-in-Ok-Allocate-clause-answer
returns-in-Ok-Allocate-clause-answer g c =
    let w : World = world_of g.C.Cabinet.files g.C.Cabinet.fault_count g.C.Cabinet.log c.args.cabinet.now in
    let v : World = world_of g.C.Cabinet.files g.C.Cabinet.fault_count g.C.Cabinet.log c.carry_out_allocate.new.cabinet in
    let o : Outside = outside_of g.D.Door.view g.K.Disk.view c.args.doors.now.items c.args.disk.now in
    subst (λ (p : Option Job). IfOk c.carry_out_allocate.result (λ a. IsAnswer p w (still o) a.status a.text.items v)) (sym (c.in-Ok-Allocate.ensures.found ∙ ap Some c.in-Ok-Allocate.field-0-is))
    (c.carry_out_allocate.ensures.answer o)

pub returns-in-Ok-Check-clause-answer : goal.returns-in-Ok-Check-clause-answer
returns-in-Ok-Check-clause-answer g c =
    let w : World = world_of g.C.Cabinet.files g.C.Cabinet.fault_count g.C.Cabinet.log c.args.cabinet.now in
    let v : World = world_of g.C.Cabinet.files g.C.Cabinet.fault_count g.C.Cabinet.log c.carry_out_check.new.cabinet in
    let o : Outside = outside_of g.D.Door.view g.K.Disk.view c.args.doors.now.items c.args.disk.now in
    subst (λ (p : Option Job). IfOk c.carry_out_check.result (λ a. IsAnswer p w (still o) a.status a.text.items v)) (sym (c.in-Ok-Check.ensures.found ∙ ap Some c.in-Ok-Check.field-0-is))
    (c.carry_out_check.ensures.answer o)

pub returns-in-Ok-Amend-clause-answer : goal.returns-in-Ok-Amend-clause-answer
returns-in-Ok-Amend-clause-answer g c =
    let w : World = world_of g.C.Cabinet.files g.C.Cabinet.fault_count g.C.Cabinet.log c.args.cabinet.now in
    let v : World = world_of g.C.Cabinet.files g.C.Cabinet.fault_count g.C.Cabinet.log c.carry_out_amend.new.cabinet in
    let o : Outside = outside_of g.D.Door.view g.K.Disk.view c.args.doors.now.items c.args.disk.now in
    subst (λ (p : Option Job). IfOk c.carry_out_amend.result (λ a. IsAnswer p w (still o) a.status a.text.items v)) (sym (c.in-Ok-Amend.ensures.found ∙ ap Some c.in-Ok-Amend.field-0-is))
    (c.carry_out_amend.ensures.answer o)

pub returns-in-Ok-Usage-clause-answer : goal.returns-in-Ok-Usage-clause-answer
returns-in-Ok-Usage-clause-answer g c =
    let w : World = world_of g.C.Cabinet.files g.C.Cabinet.fault_count g.C.Cabinet.log c.args.cabinet.now in
    let v : World = world_of g.C.Cabinet.files g.C.Cabinet.fault_count g.C.Cabinet.log c.carry_out_usage.new.cabinet in
    let o : Outside = outside_of g.D.Door.view g.K.Disk.view c.args.doors.now.items c.args.disk.now in
    subst (λ (p : Option Job). IfOk c.carry_out_usage.result (λ a. IsAnswer p w (still o) a.status a.text.items v)) (sym (c.in-Ok-Usage.ensures.found ∙ ap Some c.in-Ok-Usage.field-0-is))
    (c.carry_out_usage.ensures.answer o)

pub returns-in-Ok-Report-clause-answer : goal.returns-in-Ok-Report-clause-answer
returns-in-Ok-Report-clause-answer g c =
    let w : World = world_of g.C.Cabinet.files g.C.Cabinet.fault_count g.C.Cabinet.log c.args.cabinet.now in
    let v : World = world_of g.C.Cabinet.files g.C.Cabinet.fault_count g.C.Cabinet.log c.carry_out_report.new.cabinet in
    let o : Outside = outside_of g.D.Door.view g.K.Disk.view c.args.doors.now.items c.args.disk.now in
    subst (λ (p : Option Job). IfOk c.carry_out_report.result (λ a. IsAnswer p w (still o) a.status a.text.items v)) (sym (c.in-Ok-Report.ensures.found ∙ ap Some c.in-Ok-Report.field-0-is))
    (c.carry_out_report.ensures.answer o)

pub returns-in-Ok-Inspect-clause-answer : goal.returns-in-Ok-Inspect-clause-answer
returns-in-Ok-Inspect-clause-answer g c =
    let w : World = world_of g.C.Cabinet.files g.C.Cabinet.fault_count g.C.Cabinet.log c.args.cabinet.now in
    let v : World = world_of g.C.Cabinet.files g.C.Cabinet.fault_count g.C.Cabinet.log c.carry_out_inspect.new.cabinet in
    let o : Outside = outside_of g.D.Door.view g.K.Disk.view c.args.doors.now.items c.args.disk.now in
    subst (λ (p : Option Job). IfOk c.carry_out_inspect.result (λ a. IsAnswer p w (still o) a.status a.text.items v)) (sym (c.in-Ok-Inspect.ensures.found ∙ ap Some c.in-Ok-Inspect.field-0-is))
    (c.carry_out_inspect.ensures.answer o)

pub returns-in-Ok-Make-clause-answer : goal.returns-in-Ok-Make-clause-answer
returns-in-Ok-Make-clause-answer g c =
    let w : World = world_of g.C.Cabinet.files g.C.Cabinet.fault_count g.C.Cabinet.log c.args.cabinet.now in
    let v : World = world_of g.C.Cabinet.files g.C.Cabinet.fault_count g.C.Cabinet.log c.carry_out_make.new.cabinet in
    let o : Outside = outside_of g.D.Door.view g.K.Disk.view c.args.doors.now.items c.args.disk.now in
    subst (λ (p : Option Job). IfOk c.carry_out_make.result (λ a. IsAnswer p w (still o) a.status a.text.items v)) (sym (c.in-Ok-Make.ensures.found ∙ ap Some c.in-Ok-Make.field-0-is))
    (c.carry_out_make.ensures.answer o)

pub returns-in-Ok-Trial-clause-answer : goal.returns-in-Ok-Trial-clause-answer
returns-in-Ok-Trial-clause-answer g c =
    let w : World = world_of g.C.Cabinet.files g.C.Cabinet.fault_count g.C.Cabinet.log c.args.cabinet.now in
    let o : Outside = outside_of g.D.Door.view g.K.Disk.view c.args.doors.now.items c.args.disk.now in
    subst (λ (p : Option Job). IfOk c.carry_out_trial.result (λ a. IsAnswer p w (still o) a.status a.text.items w)) (sym (c.in-Ok-Trial.ensures.found ∙ ap Some c.in-Ok-Trial.field-0-is))
    (ok_tried _ o w c.carry_out_trial.result c.carry_out_trial.ensures)

pub returns-in-Ok-Serve-clause-answer : goal.returns-in-Ok-Serve-clause-answer
returns-in-Ok-Serve-clause-answer g c =
    let w : World = world_of g.C.Cabinet.files g.C.Cabinet.fault_count g.C.Cabinet.log c.args.cabinet.now in
    let v : World = world_of g.C.Cabinet.files g.C.Cabinet.fault_count g.C.Cabinet.log c.carry_out_serve.new.cabinet in
    let change = outside_change g.D.Door.view g.K.Disk.view c.args.doors.now.items c.args.disk.now c.carry_out_serve.new.doors.items c.args.disk.now in
    subst (λ (p : Option Job). IfOk c.carry_out_serve.result (λ a. IsAnswer p w change a.status a.text.items v)) (sym (c.in-Ok-Serve.ensures.found ∙ ap Some c.in-Ok-Serve.field-0-is))
    (c.carry_out_serve.ensures.answer _ _ _)

pub returns-in-Ok-Serve-clause-asked : goal.returns-in-Ok-Serve-clause-asked
returns-in-Ok-Serve-clause-asked g c =
    subst (λ (o : Option Job). LogGrew (g.C.Cabinet.log c.args.cabinet.now) (OnlyOfJob o) (g.C.Cabinet.log c.carry_out_serve.new.cabinet)) (sym (c.in-Ok-Serve.ensures.found ∙ ap Some c.in-Ok-Serve.field-0-is))
    (c.carry_out_serve.ensures.asked 0 0)

pub returns-in-Ok-Resume-clause-answer : goal.returns-in-Ok-Resume-clause-answer
returns-in-Ok-Resume-clause-answer g c =
    let w : World = world_of g.C.Cabinet.files g.C.Cabinet.fault_count g.C.Cabinet.log c.args.cabinet.now in
    let v : World = world_of g.C.Cabinet.files g.C.Cabinet.fault_count g.C.Cabinet.log c.carry_out_resume.new.cabinet in
    let change = outside_change g.D.Door.view g.K.Disk.view c.args.doors.now.items c.args.disk.now c.carry_out_resume.new.doors.items c.carry_out_resume.new.disk in
    subst (λ (p : Option Job). IfOk c.carry_out_resume.result (λ a. IsAnswer p w change a.status a.text.items v)) (sym (c.in-Ok-Resume.ensures.found ∙ ap Some c.in-Ok-Resume.field-0-is))
    (c.carry_out_resume.ensures.answer _ _)

pub returns-in-Ok-Resume-clause-asked : goal.returns-in-Ok-Resume-clause-asked
returns-in-Ok-Resume-clause-asked g c =
    subst (λ (o : Option Job). LogGrew (g.C.Cabinet.log c.args.cabinet.now) (OnlyOfJob o) (g.C.Cabinet.log c.carry_out_resume.new.cabinet)) (sym (c.in-Ok-Resume.ensures.found ∙ ap Some c.in-Ok-Resume.field-0-is))
    (c.carry_out_resume.ensures.asked 0 0)

pub returns-in-Ok-Reclear-clause-asked : goal.returns-in-Ok-Reclear-clause-asked
returns-in-Ok-Reclear-clause-asked g c =
    subst (λ (o : Option Job). LogGrew (g.C.Cabinet.log c.args.cabinet.now) (OnlyOfJob o) (g.C.Cabinet.log c.carry_out_reclear.new.cabinet)) (sym (c.in-Ok-Reclear.ensures.found ∙ ap Some c.in-Ok-Reclear.field-0-is))
    c.carry_out_reclear.ensures.asked

pub returns-in-Ok-Reclear-clause-answer : goal.returns-in-Ok-Reclear-clause-answer
returns-in-Ok-Reclear-clause-answer g c =
    let w : World = world_of g.C.Cabinet.files g.C.Cabinet.fault_count g.C.Cabinet.log c.args.cabinet.now in
    let v : World = world_of g.C.Cabinet.files g.C.Cabinet.fault_count g.C.Cabinet.log c.carry_out_reclear.new.cabinet in
    let o : Outside = outside_of g.D.Door.view g.K.Disk.view c.args.doors.now.items c.args.disk.now in
    subst (λ (p : Option Job). IfOk c.carry_out_reclear.result (λ a. IsAnswer p w (still o) a.status a.text.items v)) (sym (c.in-Ok-Reclear.ensures.found ∙ ap Some c.in-Ok-Reclear.field-0-is))
    (c.carry_out_reclear.ensures.answer o)

pub returns-in-Ok-Recheck-clause-asked : goal.returns-in-Ok-Recheck-clause-asked
returns-in-Ok-Recheck-clause-asked g c =
    subst (λ (o : Option Job). LogGrew (g.C.Cabinet.log c.args.cabinet.now) (OnlyOfJob o) (g.C.Cabinet.log c.carry_out_recheck.new.cabinet)) (sym (c.in-Ok-Recheck.ensures.found ∙ ap Some c.in-Ok-Recheck.field-0-is))
    c.carry_out_recheck.ensures.asked

pub returns-in-Ok-Recheck-clause-answer : goal.returns-in-Ok-Recheck-clause-answer
returns-in-Ok-Recheck-clause-answer g c =
    let w : World = world_of g.C.Cabinet.files g.C.Cabinet.fault_count g.C.Cabinet.log c.args.cabinet.now in
    let v : World = world_of g.C.Cabinet.files g.C.Cabinet.fault_count g.C.Cabinet.log c.carry_out_recheck.new.cabinet in
    let o : Outside = outside_of g.D.Door.view g.K.Disk.view c.args.doors.now.items c.args.disk.now in
    subst (λ (p : Option Job). IfOk c.carry_out_recheck.result (λ a. IsAnswer p w (still o) a.status a.text.items v)) (sym (c.in-Ok-Recheck.ensures.found ∙ ap Some c.in-Ok-Recheck.field-0-is))
    (c.carry_out_recheck.ensures.answer o)

pub returns-in-Ok-Serve-clause-unasked : goal.returns-in-Ok-Serve-clause-unasked
returns-in-Ok-Serve-clause-unasked g c = λ none. absurd (none.1 _ _ _ _ (c.in-Ok-Serve.ensures.found ∙ ap Some c.in-Ok-Serve.field-0-is))

pub returns-in-Ok-Resume-clause-unasked : goal.returns-in-Ok-Resume-clause-unasked
returns-in-Ok-Resume-clause-unasked g c = λ none. absurd (none.0 _ _ _ _ (c.in-Ok-Resume.ensures.found ∙ ap Some c.in-Ok-Resume.field-0-is))

pub returns-in-Ok-Resume-clause-dry : goal.returns-in-Ok-Resume-clause-dry
returns-in-Ok-Resume-clause-dry g c = λ none. absurd (none _ _ _ _ (c.in-Ok-Resume.ensures.found ∙ ap Some c.in-Ok-Resume.field-0-is))
