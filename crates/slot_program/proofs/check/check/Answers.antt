use Rattle.std.proofs.Common.{[], ◌∷◌, refl}
use Rattle.std.proofs.lemmas.Result.{err_from_is_err_and}
use Rattle.command_words.specs.declared.job.Job.TheVariants.{Check}
use Rattle.desk_commands.specs.Jobs.{certificate_steps, check_steps}
use Rattle.desk_commands.specs.Outside.{still}
use Rattle.desk_commands.specs.Desk.{World, world_of}
use Rattle.slot_program.proofs.check.check.Goals as goal

pub returns-in_err-submission-clause-stop : goal.returns-in_err-submission-clause-stop
returns-in_err-submission-clause-stop g c =
    let w : World = world_of g.C.Cabinet.files g.C.Cabinet.fault_count g.C.Cabinet.log c.args.cabinet.now in
    let v : World = world_of g.C.Cabinet.files g.C.Cabinet.fault_count g.C.Cabinet.log c.read_season.new.cabinet in
    let names = c.args.names.now in
    let p = err_from_is_err_and c.from_residual.result c.from_residual.ensures.1 in
    rw (p.1, p.2) (λ o. c.ended_jobs.ensures.stopped names (Check names) w v (still o) c.in_err-submission.field-0.0 refl (c.in_err-submission.ensures.stop (certificate_steps names [])))

pub returns-in_err-read_certificate-clause-stop : goal.returns-in_err-read_certificate-clause-stop
returns-in_err-read_certificate-clause-stop g c =
    let w : World = world_of g.C.Cabinet.files g.C.Cabinet.fault_count g.C.Cabinet.log c.args.cabinet.now in
    let u : World = world_of g.C.Cabinet.files g.C.Cabinet.fault_count g.C.Cabinet.log c.read_certificate.new.cabinet in
    let names = c.args.names.now in
    let p = err_from_is_err_and c.from_residual-in_err-read_certificate.result c.from_residual-in_err-read_certificate.ensures.1 in
    let s = c.in_ok-submission.ensures.found in
    rw (p.1, p.2) (λ o. c.ended_jobs.ensures.stopped names (Check names) w u (still o) c.in_err-read_certificate.field-0.0 refl
    (c.in_err-read_certificate.ensures.stop w (check_steps names) [] s.0 s.1 s.2 (s.3 (certificate_steps names []))))

pub returns-in_err-text-clause-stop : goal.returns-in_err-text-clause-stop
returns-in_err-text-clause-stop g c =
    let w : World = world_of g.C.Cabinet.files g.C.Cabinet.fault_count g.C.Cabinet.log c.args.cabinet.now in
    let u : World = world_of g.C.Cabinet.files g.C.Cabinet.fault_count g.C.Cabinet.log c.read_certificate.new.cabinet in
    let names = c.args.names.now in
    let s = c.in_ok-submission.ensures.found in
    let f = c.in_ok-read_certificate.ensures.found w (check_steps names) [] s.0 s.1 s.2 (s.3 (certificate_steps names [])) in
    let p = err_from_is_err_and c.from_residual-in_err-text.result c.from_residual-in_err-text.ensures.1 in
    rw (p.1, p.2) (λ o. c.ended_jobs.ensures.memory w u (check_steps names) [] (s.0 ∷ s.1 ∷ f.0 ∷ []) f.2)

pub returns-clause-done : goal.returns-clause-done
returns-clause-done g c =
    let w : World = world_of g.C.Cabinet.files g.C.Cabinet.fault_count g.C.Cabinet.log c.args.cabinet.now in
    let u : World = world_of g.C.Cabinet.files g.C.Cabinet.fault_count g.C.Cabinet.log c.read_certificate.new.cabinet in
    let names = c.args.names.now in
    let s = c.in_ok-submission.ensures.found in
    let f = c.in_ok-read_certificate.ensures.found w (check_steps names) [] s.0 s.1 s.2 (s.3 (certificate_steps names [])) in
    λ o. c.ended_jobs.ensures.read (Check names) w u (s.0 ∷ s.1 ∷ f.0 ∷ []) (still o) 0 _ f.2 (refl, (refl, refl, rw c.into_bytes.ensures.value c.in_ok-text.ensures))
