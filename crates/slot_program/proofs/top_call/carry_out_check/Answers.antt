use Rattle.std.proofs.Common.{[], None}
use Rattle.command_words.specs.declared.job.Job.TheVariants.{Check}
use Rattle.desk_commands.specs.Outside.{Outside, still}
use Rattle.desk_commands.specs.Desk.{World, world_of}
use Rattle.slot_program.proofs.top_call.carry_out_check.Goals as goal

pub returns-clause-answer : goal.returns-clause-answer
returns-clause-answer g c = λ o.
    let w : World = world_of g.C.Cabinet.files g.C.Cabinet.fault_count g.C.Cabinet.log c.args.cabinet.now in
    let v : World = world_of g.C.Cabinet.files g.C.Cabinet.fault_count g.C.Cabinet.log c.check-ended.new.cabinet in
    c.finish.ensures.answer (Check c.args.names.now) w (still o) v (c.check-ended.ensures.done o) (c.check-ended.ensures.stop o)

pub returns-clause-asked : goal.returns-clause-asked
returns-clause-asked g c =
    let w : World = world_of g.C.Cabinet.files g.C.Cabinet.fault_count g.C.Cabinet.log c.args.cabinet.now in
    let v : World = world_of g.C.Cabinet.files g.C.Cabinet.fault_count g.C.Cabinet.log c.check-ended.new.cabinet in
    let o : Outside = record { doors = []; disk = None } in
    c.finish.ensures.asked (Check c.args.names.now) w (still o) v (c.check-ended.ensures.done o) (c.check-ended.ensures.stop o)
