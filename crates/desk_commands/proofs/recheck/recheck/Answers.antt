use Rattle.std.proofs.Common.{[], ◌∷◌, List}
use Rattle.std.proofs.lemmas.Result.{err_from_is_err_and}
use Rattle.command_words.specs.Words.{Word}
use Rattle.command_words.specs.declared.job.Job.TheVariants.{Recheck}
use Rattle.desk_commands.specs.Judgements.{extra_form, valid_extra}
use Rattle.desk_commands.specs.Steps.{Step, reads, judges}
use Rattle.desk_commands.specs.Jobs.{name_at}
use Rattle.desk_commands.specs.Desk.{World, world_of}
use Rattle.desk_commands.specs.declared.files.TheConstants.{LONGEST_CERT_FILE}
use Rattle.desk_commands.proofs.EndLemmas.{stop_job}
use Rattle.desk_commands.proofs.recheck.recheck.Goals as goal

-- the steps behind the asks
abbrev last : List Word → List Step
last names = reads (name_at names 4) LONGEST_CERT_FILE ∷ judges extra_form (name_at names 4) ∷ judges valid_extra (name_at names 4) ∷ []

pub returns-in_err-left-clause-stop : goal.returns-in_err-left-clause-stop
returns-in_err-left-clause-stop g c =
    let w : World = world_of g.C.Cabinet.files g.C.Cabinet.fault_count g.C.Cabinet.log c.args.cabinet.now in
    let v : World = world_of g.C.Cabinet.files g.C.Cabinet.fault_count g.C.Cabinet.log c.read_waiting.new.cabinet in
    let names = c.args.names.now in
    let p = err_from_is_err_and c.from_residual.result c.from_residual.ensures.1 in
    rw (p.1, p.2) (stop_job names (Recheck names) w v c.in_err-left.field-0.0 (c.in_err-left.ensures.stop (last names)))

pub recheck_left-requires : goal.recheck_left-requires
recheck_left-requires g c = let is = c.in_ok-left.ensures.left in is.left.spelled

pub returns-clause-stop : goal.returns-clause-stop
returns-clause-stop g c =
    let w : World = world_of g.C.Cabinet.files g.C.Cabinet.fault_count g.C.Cabinet.log c.args.cabinet.now in
    c.recheck_left.ensures.stop w c.in_ok-left.ensures.left

pub returns-clause-done : goal.returns-clause-done
returns-clause-done g c =
    let w : World = world_of g.C.Cabinet.files g.C.Cabinet.fault_count g.C.Cabinet.log c.args.cabinet.now in
    c.recheck_left.ensures.done w c.in_ok-left.ensures.left
