use Rattle.std.proofs.Common.{[], ◌∷◌, ℕ, List, Option, refl, ap}
use Rattle.desk_disk.specs.Disks.{DiskView}
use Rattle.std.proofs.lemmas.Result.{err_from_is_err_and}
use Rattle.command_words.specs.Words.{Word}
use Rattle.command_words.specs.declared.job.Job.TheVariants.{Serve}
use Rattle.desk_commands.specs.Jobs.{name_at, serve_steps, one_file, IsService}
use Rattle.desk_commands.specs.Outside.{doors_change}
use Rattle.desk_commands.specs.Desk.{World, world_of}
use Rattle.slot_program.proofs.serve.serve.Goals as goal

pub returns-in_err-proved-clause-stop : goal.returns-in_err-proved-clause-stop
returns-in_err-proved-clause-stop g c =
    let w : World = world_of g.C.Cabinet.files g.C.Cabinet.fault_count g.C.Cabinet.log c.args.cabinet.now in
    let v : World = world_of g.C.Cabinet.files g.C.Cabinet.fault_count g.C.Cabinet.log c.read_proved.new.cabinet in
    let names = c.args.names.now in
    let p = err_from_is_err_and c.from_residual.result c.from_residual.ensures.1 in
    rw (p.1, p.2) (λ port workers disk. c.ended_jobs.ensures.stopped names (Serve names c.args.links port workers) w v (doors_change g.D.Door.view c.args.doors.now.items c.args.doors.now.items disk) c.in_err-proved.field-0.0 refl
    (c.in_err-proved.ensures.stop []))

pub returns-in_err-output-clause-stop : goal.returns-in_err-output-clause-stop
returns-in_err-output-clause-stop g c =
    let w : World = world_of g.C.Cabinet.files g.C.Cabinet.fault_count g.C.Cabinet.log c.args.cabinet.now in
    let v : World = world_of g.C.Cabinet.files g.C.Cabinet.fault_count g.C.Cabinet.log c.read_proved.new.cabinet in
    let names = c.args.names.now in
    let p = err_from_is_err_and c.from_residual-in_err-output.result c.from_residual-in_err-output.ensures.1 in
    let s = c.in_ok-proved.ensures.found in
    rw (p.1, p.2) (λ port workers disk. c.ended_jobs.ensures.memory w v (serve_steps names) [] (s.0 ∷ s.1 ∷ s.2 ∷ []) (s.6 []))

-- the work, by what was served
pub returns-in_err-write_one-clause-stop : goal.returns-in_err-write_one-clause-stop
returns-in_err-write_one-clause-stop g c =
    let w : World = world_of g.C.Cabinet.files g.C.Cabinet.fault_count g.C.Cabinet.log c.args.cabinet.now in
    let names = c.args.names.now in
    let s = c.in_ok-proved.ensures.found in
    let out = c.in_ok-output.output in
    let work : (disk : Option DiskView) → IsService names c.args.links s.0.bytes s.1.bytes s.2.bytes (one_file names 3 c.deref.result.now) (doors_change g.D.Door.view c.args.doors.now.items c.service_output.new.doors.items disk) out.answer.status out.answer.text.items =
    λ disk. record {
      season = c.in_ok-proved.proved.submission;
      proved = c.in_ok-proved.proved.certificate;
      recorded = out.recorded.items;
      made = s.3;
      spelled = s.4;
      valid = c.in_ok-proved.ensures.valid;
      output = c.in_ok-output.ensures.served;
      written = ap (λ (l : List ℕ). one_file names 3 l) c.deref.ensures.value;
      disk = refl;
    } in
    let p = err_from_is_err_and c.from_residual-in_err-write_one.result c.from_residual-in_err-write_one.ensures.1 in
    rw (p.1, p.2) (λ port workers disk. c.in_err-write_one.ensures.stop (Serve names c.args.links port workers) w (doors_change g.D.Door.view c.args.doors.now.items c.service_output.new.doors.items disk) (s.0 ∷ s.1 ∷ s.2 ∷ []) out.answer.status out.answer.text.items refl (s.6 []) (work disk))

pub returns-clause-done : goal.returns-clause-done
returns-clause-done g c =
    let w : World = world_of g.C.Cabinet.files g.C.Cabinet.fault_count g.C.Cabinet.log c.args.cabinet.now in
    let names = c.args.names.now in
    let s = c.in_ok-proved.ensures.found in
    let out = c.in_ok-output.output in
    let work : (disk : Option DiskView) → IsService names c.args.links s.0.bytes s.1.bytes s.2.bytes (one_file names 3 c.deref.result.now) (doors_change g.D.Door.view c.args.doors.now.items c.service_output.new.doors.items disk) out.answer.status out.answer.text.items =
    λ disk. record {
      season = c.in_ok-proved.proved.submission;
      proved = c.in_ok-proved.proved.certificate;
      recorded = out.recorded.items;
      made = s.3;
      spelled = s.4;
      valid = c.in_ok-proved.ensures.valid;
      output = c.in_ok-output.ensures.served;
      written = ap (λ (l : List ℕ). one_file names 3 l) c.deref.ensures.value;
      disk = refl;
    } in
    λ port workers disk. c.in_ok-write_one.ensures.done (Serve names c.args.links port workers) w (doors_change g.D.Door.view c.args.doors.now.items c.service_output.new.doors.items disk) (s.0 ∷ s.1 ∷ s.2 ∷ []) out.answer.status out.answer.text.items refl (s.6 []) (work disk)

pub returns-in_err-proved-clause-others : goal.returns-in_err-proved-clause-others
returns-in_err-proved-clause-others g c =
    let files = g.C.Cabinet.files in
    let names : List Word = name_at c.args.names.now 3 ∷ [] in
    c.file_changes.ensures.unchanged (files c.args.cabinet.now) (files c.read_proved.new.cabinet) names c.read_proved.ensures.unchanged

pub returns-in_err-output-clause-others : goal.returns-in_err-output-clause-others
returns-in_err-output-clause-others g c =
    let files = g.C.Cabinet.files in
    let names : List Word = name_at c.args.names.now 3 ∷ [] in
    c.file_changes.ensures.unchanged (files c.args.cabinet.now) (files c.read_proved.new.cabinet) names c.read_proved.ensures.unchanged

pub returns-in_err-write_one-clause-others : goal.returns-in_err-write_one-clause-others
returns-in_err-write_one-clause-others g c =
    let files = g.C.Cabinet.files in
    let names : List Word = name_at c.args.names.now 3 ∷ [] in
    c.file_changes.ensures.chained (files c.args.cabinet.now) (files c.read_proved.new.cabinet) (files c.write_one.new.cabinet) names
    (c.file_changes.ensures.unchanged (files c.args.cabinet.now) (files c.read_proved.new.cabinet) names c.read_proved.ensures.unchanged)
    c.write_one.ensures.others

pub returns-clause-others : goal.returns-clause-others
returns-clause-others g c =
    let files = g.C.Cabinet.files in
    let names : List Word = name_at c.args.names.now 3 ∷ [] in
    c.file_changes.ensures.chained (files c.args.cabinet.now) (files c.read_proved.new.cabinet) (files c.write_one.new.cabinet) names
    (c.file_changes.ensures.unchanged (files c.args.cabinet.now) (files c.read_proved.new.cabinet) names c.read_proved.ensures.unchanged)
    c.write_one.ensures.others
