use Rattle.command_words.specs.declared.job.Job.TheVariants.{Allocate}
use Rattle.desk_commands.specs.Outside.{still}
use Rattle.desk_commands.specs.Desk.{World, world_of}
use Rattle.desk_commands.proofs.OutsideLemmas.{nowhere, ok_at, err_at}
use Rattle.desk_commands.proofs.commands.carry_out_allocate.Goals as goal

pub returns-clause-answer : goal.returns-clause-answer
returns-clause-answer g c = λ o.
    let w : World = world_of g.C.Cabinet.files g.C.Cabinet.fault_count g.C.Cabinet.log c.args.cabinet.now in
    let v : World = world_of g.C.Cabinet.files g.C.Cabinet.fault_count g.C.Cabinet.log c.allocate-ended.new.cabinet in
    c.finish.ensures.answer (Allocate c.args.names.now c.args.nodes c.args.workers) w (still o) v (ok_at _ o c.allocate-ended.result c.allocate-ended.ensures.done) (err_at _ o c.allocate-ended.result c.allocate-ended.ensures.stop)

pub returns-clause-asked : goal.returns-clause-asked
returns-clause-asked g c =
    let w : World = world_of g.C.Cabinet.files g.C.Cabinet.fault_count g.C.Cabinet.log c.args.cabinet.now in
    let v : World = world_of g.C.Cabinet.files g.C.Cabinet.fault_count g.C.Cabinet.log c.allocate-ended.new.cabinet in
    c.finish.ensures.asked (Allocate c.args.names.now c.args.nodes c.args.workers) w (still nowhere) v (ok_at _ nowhere c.allocate-ended.result c.allocate-ended.ensures.done) (err_at _ nowhere c.allocate-ended.result c.allocate-ended.ensures.stop)
