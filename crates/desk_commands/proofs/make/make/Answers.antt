use Rattle.std.proofs.Common.{◌≡◌, [], refl, ◌∙◌}
use Rattle.std.proofs.lemmas.Result.{err_from_is_err_and}
use Rattle.season_maker.specs.Texts.{generated_capacity, generated_requests}
use Rattle.command_words.specs.declared.job.Job.TheVariants.{Make}
use Rattle.desk_commands.specs.Jobs.{two_files, IsMade}
use Rattle.desk_commands.specs.Outside.{still}
use Rattle.desk_commands.specs.Desk.{World, world_of}
use Rattle.desk_commands.proofs.LeadLemmas.{leads_start}
use Rattle.desk_commands.proofs.make.make.Goals as goal

pub returns-in_err-write_two-clause-stop : goal.returns-in_err-write_two-clause-stop
returns-in_err-write_two-clause-stop g c =
    let w : World = world_of g.C.Cabinet.files g.C.Cabinet.fault_count g.C.Cabinet.log c.args.cabinet.now in
    let names = c.args.names.now in
    let one : c.deref.result.now ≡ generated_capacity c.args.units = c.deref.ensures.value ∙ c.in_ok-capacity.ensures.capacity in
    let two : c.deref-2.result.now ≡ generated_requests c.args.number c.args.units = c.deref-2.ensures.value ∙ c.in_ok-capacity.ensures.requests in
    let work : IsMade c.args.number c.args.units names (two_files names 0 c.deref.result.now c.deref-2.result.now) 0 [] = record { written = rw (one, two) refl; status_is = refl; printed = refl } in
    let p = err_from_is_err_and c.from_residual-in_err-write_two.result c.from_residual-in_err-write_two.ensures.1 in
    rw (p.1, p.2) (λ o. c.in_err-write_two.ensures.stop (Make c.args.number c.args.units names) w (still o) [] 0 [] refl (leads_start w []) (refl, work))

pub returns-clause-done : goal.returns-clause-done
returns-clause-done g c =
    let w : World = world_of g.C.Cabinet.files g.C.Cabinet.fault_count g.C.Cabinet.log c.args.cabinet.now in
    let names = c.args.names.now in
    let one : c.deref.result.now ≡ generated_capacity c.args.units = c.deref.ensures.value ∙ c.in_ok-capacity.ensures.capacity in
    let two : c.deref-2.result.now ≡ generated_requests c.args.number c.args.units = c.deref-2.ensures.value ∙ c.in_ok-capacity.ensures.requests in
    let work : IsMade c.args.number c.args.units names (two_files names 0 c.deref.result.now c.deref-2.result.now) 0 c.new.result.items = record { written = rw (one, two) refl; status_is = refl; printed = c.new.ensures.items } in
    λ o. c.in_ok-write_two.ensures.done (Make c.args.number c.args.units names) w (still o) [] 0 c.new.result.items refl (leads_start w []) (refl, work)
