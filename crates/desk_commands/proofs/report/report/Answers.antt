use Rattle.std.proofs.Common.{[], ◌∷◌, List, refl}
use Rattle.std.proofs.lemmas.Result.{err_from_is_err_and}
use Rattle.command_words.specs.declared.job.Job.TheVariants.{Report}
use Rattle.command_words.specs.Words.{Word}
use Rattle.desk_commands.specs.Jobs.{name_at, check_steps, two_files, IsReporting}
use Rattle.desk_commands.specs.Outside.{still}
use Rattle.desk_commands.specs.Desk.{World, world_of}
use Rattle.desk_commands.proofs.LeadLemmas.{memory_read}
use Rattle.desk_commands.proofs.EndLemmas.{stop_job}
use Rattle.desk_commands.proofs.report.report.Goals as goal

pub returns-in_err-proved-clause-stop : goal.returns-in_err-proved-clause-stop
returns-in_err-proved-clause-stop g c =
    let w : World = world_of g.C.Cabinet.files g.C.Cabinet.fault_count g.C.Cabinet.log c.args.cabinet.now in
    let v : World = world_of g.C.Cabinet.files g.C.Cabinet.fault_count g.C.Cabinet.log c.read_proved.new.cabinet in
    let names = c.args.names.now in
    let p = err_from_is_err_and c.from_residual.result c.from_residual.ensures.1 in
    rw (p.1, p.2) (stop_job names (Report names) w v c.in_err-proved.field-0.0 (c.in_err-proved.ensures.stop []))

pub returns-in_err-proved-clause-others : goal.returns-in_err-proved-clause-others
returns-in_err-proved-clause-others g c =
    let files = g.C.Cabinet.files in
    let names : List Word = name_at c.args.names.now 3 ∷ name_at c.args.names.now 4 ∷ [] in
    c.file_changes.ensures.unchanged (files c.args.cabinet.now) (files c.read_proved.new.cabinet) names c.read_proved.ensures.unchanged

pub returns-in_err-output-clause-stop : goal.returns-in_err-output-clause-stop
returns-in_err-output-clause-stop g c =
    let w : World = world_of g.C.Cabinet.files g.C.Cabinet.fault_count g.C.Cabinet.log c.args.cabinet.now in
    let v : World = world_of g.C.Cabinet.files g.C.Cabinet.fault_count g.C.Cabinet.log c.read_proved.new.cabinet in
    let names = c.args.names.now in
    let p = err_from_is_err_and c.from_residual-in_err-output.result c.from_residual-in_err-output.ensures.1 in
    let s = c.in_ok-proved.ensures.found in
    rw (p.1, p.2) (λ o. memory_read w v v (check_steps names) (s.0 ∷ s.1 ∷ s.2 ∷ []) [] (s.6 []) refl)

pub returns-in_err-output-clause-others : goal.returns-in_err-output-clause-others
returns-in_err-output-clause-others g c =
    let files = g.C.Cabinet.files in
    let names : List Word = name_at c.args.names.now 3 ∷ name_at c.args.names.now 4 ∷ [] in
    c.file_changes.ensures.unchanged (files c.args.cabinet.now) (files c.read_proved.new.cabinet) names c.read_proved.ensures.unchanged

pub returns-in_err-write_two-clause-stop : goal.returns-in_err-write_two-clause-stop
returns-in_err-write_two-clause-stop g c =
    let w : World = world_of g.C.Cabinet.files g.C.Cabinet.fault_count g.C.Cabinet.log c.args.cabinet.now in
    let names = c.args.names.now in
    let s = c.in_ok-proved.ensures.found in
    let out = c.in_ok-output.output in
    let work : IsReporting names s.0.bytes s.1.bytes s.2.bytes (two_files names 3 out.report.items out.page.items) 0 out.text.items =
    record {
      season = c.in_ok-proved.proved.submission;
      proved = c.in_ok-proved.proved.certificate;
      report = out.report.items;
      page = out.page.items;
      made = s.3;
      spelled = s.4;
      valid = c.in_ok-proved.ensures.valid;
      output = c.in_ok-output.ensures;
      written = refl;
      status_is = refl;
    } in
    let one = c.deref.ensures.value in
    let two = c.deref-2.ensures.value in
    let p = err_from_is_err_and c.from_residual-in_err-write_two.result c.from_residual-in_err-write_two.ensures.1 in
    rw (p.1, p.2) (λ o. c.in_err-write_two.ensures.stop (Report names) w (still o) (s.0 ∷ s.1 ∷ s.2 ∷ []) 0 out.text.items refl (s.6 [])
    (refl, rw (one, two) work))

pub returns-in_err-write_two-clause-others : goal.returns-in_err-write_two-clause-others
returns-in_err-write_two-clause-others g c =
    let files = g.C.Cabinet.files in
    let names : List Word = name_at c.args.names.now 3 ∷ name_at c.args.names.now 4 ∷ [] in
    c.file_changes.ensures.chained (files c.args.cabinet.now) (files c.read_proved.new.cabinet) (files c.write_two.new.cabinet) names
    (c.file_changes.ensures.unchanged (files c.args.cabinet.now) (files c.read_proved.new.cabinet) names c.read_proved.ensures.unchanged)
    c.write_two.ensures.others

pub returns-clause-done : goal.returns-clause-done
returns-clause-done g c =
    let w : World = world_of g.C.Cabinet.files g.C.Cabinet.fault_count g.C.Cabinet.log c.args.cabinet.now in
    let names = c.args.names.now in
    let s = c.in_ok-proved.ensures.found in
    let out = c.in_ok-output.output in
    let work : IsReporting names s.0.bytes s.1.bytes s.2.bytes (two_files names 3 out.report.items out.page.items) 0 out.text.items =
    record {
      season = c.in_ok-proved.proved.submission;
      proved = c.in_ok-proved.proved.certificate;
      report = out.report.items;
      page = out.page.items;
      made = s.3;
      spelled = s.4;
      valid = c.in_ok-proved.ensures.valid;
      output = c.in_ok-output.ensures;
      written = refl;
      status_is = refl;
    } in
    let one = c.deref.ensures.value in
    let two = c.deref-2.ensures.value in
    λ o. c.in_ok-write_two.ensures.done (Report names) w (still o) (s.0 ∷ s.1 ∷ s.2 ∷ []) 0 out.text.items refl (s.6 [])
    (refl, rw (one, two) work)

pub returns-clause-others : goal.returns-clause-others
returns-clause-others g c =
    let files = g.C.Cabinet.files in
    let names : List Word = name_at c.args.names.now 3 ∷ name_at c.args.names.now 4 ∷ [] in
    c.file_changes.ensures.chained (files c.args.cabinet.now) (files c.read_proved.new.cabinet) (files c.write_two.new.cabinet) names
    (c.file_changes.ensures.unchanged (files c.args.cabinet.now) (files c.read_proved.new.cabinet) names c.read_proved.ensures.unchanged)
    c.write_two.ensures.others
