use Rattle.command_words.specs.declared.job.Job.TheVariants.{Inspect}
use Rattle.desk_commands.specs.Outside.{still}
use Rattle.desk_commands.specs.Desk.{World, world_of}
use Rattle.desk_commands.proofs.OutsideLemmas.{nowhere, ok_at, err_at}
use Rattle.desk_commands.proofs.commands.carry_out_inspect.Goals as goal

pub returns-clause-answer : goal.returns-clause-answer
returns-clause-answer g c = λ o.
    let w : World = world_of g.C.Cabinet.files g.C.Cabinet.fault_count g.C.Cabinet.log c.args.cabinet.now in
    let v : World = world_of g.C.Cabinet.files g.C.Cabinet.fault_count g.C.Cabinet.log c.inspect-ended.new.cabinet in
    c.finish.ensures.answer (Inspect c.args.names.now) w (still o) v (ok_at _ o c.inspect-ended.result c.inspect-ended.ensures.done) (err_at _ o c.inspect-ended.result c.inspect-ended.ensures.stop)

pub returns-clause-asked : goal.returns-clause-asked
returns-clause-asked g c =
    let w : World = world_of g.C.Cabinet.files g.C.Cabinet.fault_count g.C.Cabinet.log c.args.cabinet.now in
    let v : World = world_of g.C.Cabinet.files g.C.Cabinet.fault_count g.C.Cabinet.log c.inspect-ended.new.cabinet in
    c.finish.ensures.asked (Inspect c.args.names.now) w (still nowhere) v (ok_at _ nowhere c.inspect-ended.result c.inspect-ended.ensures.done) (err_at _ nowhere c.inspect-ended.result c.inspect-ended.ensures.stop)
