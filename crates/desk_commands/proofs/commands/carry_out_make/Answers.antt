use Rattle.command_words.specs.declared.job.Job.TheVariants.{Make}
use Rattle.desk_commands.specs.Outside.{still}
use Rattle.desk_commands.specs.Desk.{World, world_of}
use Rattle.desk_commands.proofs.OutsideLemmas.{nowhere, ok_at, err_at}
use Rattle.desk_commands.proofs.commands.carry_out_make.Goals as goal

pub returns-clause-answer : goal.returns-clause-answer
returns-clause-answer g c = λ o.
    let w : World = world_of g.C.Cabinet.files g.C.Cabinet.fault_count g.C.Cabinet.log c.args.cabinet.now in
    let v : World = world_of g.C.Cabinet.files g.C.Cabinet.fault_count g.C.Cabinet.log c.make-ended.new.cabinet in
    c.finish.ensures.answer (Make c.args.number c.args.units c.args.names.now) w (still o) v (ok_at _ o c.make-ended.result c.make-ended.ensures.done) (err_at _ o c.make-ended.result c.make-ended.ensures.stop)

pub returns-clause-asked : goal.returns-clause-asked
returns-clause-asked g c =
    let w : World = world_of g.C.Cabinet.files g.C.Cabinet.fault_count g.C.Cabinet.log c.args.cabinet.now in
    let v : World = world_of g.C.Cabinet.files g.C.Cabinet.fault_count g.C.Cabinet.log c.make-ended.new.cabinet in
    c.finish.ensures.asked (Make c.args.number c.args.units c.args.names.now) w (still nowhere) v (ok_at _ nowhere c.make-ended.result c.make-ended.ensures.done) (err_at _ nowhere c.make-ended.result c.make-ended.ensures.stop)
