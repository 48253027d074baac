use Rattle.std.proofs.lemmas.Result.{err_from_is_err_and}
use Rattle.desk_commands.specs.Jobs.{season_steps, certificate_steps}
use Rattle.desk_commands.specs.Desk.{World, world_of}
use Rattle.desk_commands.proofs.season.read_proved.Goals as goal

pub returns-in_err-submission-clause-stop : goal.returns-in_err-submission-clause-stop
returns-in_err-submission-clause-stop g c =
    let names = c.args.names.now in
    let p = err_from_is_err_and c.from_residual.result c.from_residual.ensures.1 in
    rw (p.1, p.2) (λ steps. c.in_err-submission.ensures.stop (certificate_steps names steps))

pub returns-in_err-certificate-clause-stop : goal.returns-in_err-certificate-clause-stop
returns-in_err-certificate-clause-stop g c =
    let w : World = world_of g.C.Cabinet.files g.C.Cabinet.fault_count g.C.Cabinet.log c.args.cabinet.now in
    let names = c.args.names.now in
    let p = err_from_is_err_and c.from_residual-in_err-certificate.result c.from_residual-in_err-certificate.ensures.1 in
    let s = c.in_ok-submission.ensures.found in
    rw (p.1, p.2) (λ steps. c.in_err-certificate.ensures.stop w (season_steps names (certificate_steps names steps)) steps s.0 s.1 s.2 (s.3 (certificate_steps names steps)))

pub returns-clause-found : goal.returns-clause-found
returns-clause-found g c =
    let w : World = world_of g.C.Cabinet.files g.C.Cabinet.fault_count g.C.Cabinet.log c.args.cabinet.now in
    let names = c.args.names.now in
    let s = c.in_ok-submission.ensures.found in
    let f = c.in_ok-certificate.ensures.leads in (
      s.0,
      s.1,
      f.0,
      s.2,
      f.1,
      f.2,
      λ steps. f.3 w (season_steps names (certificate_steps names steps)) steps s.0 s.1 s.2 (s.3 (certificate_steps names steps)),
    )
