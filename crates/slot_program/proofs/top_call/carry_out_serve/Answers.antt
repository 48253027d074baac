use Rattle.std.proofs.Common.{None}
use Rattle.command_words.specs.declared.job.Job.TheVariants.{Serve}
use Rattle.desk_commands.specs.Outside.{OutsideChange, doors_change}
use Rattle.desk_commands.specs.Desk.{World, world_of}
use Rattle.slot_program.proofs.OutsideLemmas.{ok_served, err_served}
use Rattle.slot_program.proofs.top_call.carry_out_serve.Goals as goal

pub returns-clause-answer : goal.returns-clause-answer
returns-clause-answer g c = λ port workers disk.
    let w : World = world_of g.C.Cabinet.files g.C.Cabinet.fault_count g.C.Cabinet.log c.args.cabinet.now in
    let v : World = world_of g.C.Cabinet.files g.C.Cabinet.fault_count g.C.Cabinet.log c.serve-ended.new.cabinet in
    let change : OutsideChange = doors_change g.D.Door.view c.args.doors.now.items c.serve-ended.new.doors.items disk in
    c.finish.ensures.answer (Serve c.args.names.now c.args.links port workers) w change v
    (ok_served _ port workers disk c.serve-ended.result c.serve-ended.ensures.done) (err_served _ port workers disk c.serve-ended.result c.serve-ended.ensures.stop)

pub returns-clause-asked : goal.returns-clause-asked
returns-clause-asked g c = λ port workers.
    let w : World = world_of g.C.Cabinet.files g.C.Cabinet.fault_count g.C.Cabinet.log c.args.cabinet.now in
    let v : World = world_of g.C.Cabinet.files g.C.Cabinet.fault_count g.C.Cabinet.log c.serve-ended.new.cabinet in
    let change : OutsideChange = doors_change g.D.Door.view c.args.doors.now.items c.serve-ended.new.doors.items None in
    c.finish.ensures.asked (Serve c.args.names.now c.args.links port workers) w change v
    (ok_served _ port workers None c.serve-ended.result c.serve-ended.ensures.done) (err_served _ port workers None c.serve-ended.result c.serve-ended.ensures.stop)
