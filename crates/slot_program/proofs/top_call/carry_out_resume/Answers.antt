use Rattle.command_words.specs.declared.job.Job.TheVariants.{Resume}
use Rattle.desk_commands.specs.Outside.{OutsideChange, outside_change}
use Rattle.desk_commands.specs.Desk.{World, world_of}
use Rattle.slot_program.proofs.OutsideLemmas.{ok_numbered, err_numbered}
use Rattle.slot_program.proofs.top_call.carry_out_resume.Goals as goal

pub returns-clause-answer : goal.returns-clause-answer
returns-clause-answer g c = λ port workers.
    let w : World = world_of g.C.Cabinet.files g.C.Cabinet.fault_count g.C.Cabinet.log c.args.cabinet.now in
    let v : World = world_of g.C.Cabinet.files g.C.Cabinet.fault_count g.C.Cabinet.log c.resume-ended.new.cabinet in
    let change : OutsideChange = outside_change g.D.Door.view g.K.Disk.view c.args.doors.now.items c.args.disk.now c.resume-ended.new.doors.items c.resume-ended.new.disk in
    c.finish.ensures.answer (Resume c.args.names.now c.args.links port workers) w change v
    (ok_numbered _ port workers c.resume-ended.result c.resume-ended.ensures.done) (err_numbered _ port workers c.resume-ended.result c.resume-ended.ensures.stop)

pub returns-clause-asked : goal.returns-clause-asked
returns-clause-asked g c = λ port workers.
    let w : World = world_of g.C.Cabinet.files g.C.Cabinet.fault_count g.C.Cabinet.log c.args.cabinet.now in
    let v : World = world_of g.C.Cabinet.files g.C.Cabinet.fault_count g.C.Cabinet.log c.resume-ended.new.cabinet in
    let change : OutsideChange = outside_change g.D.Door.view g.K.Disk.view c.args.doors.now.items c.args.disk.now c.resume-ended.new.doors.items c.resume-ended.new.disk in
    c.finish.ensures.asked (Resume c.args.names.now c.args.links port workers) w change v
    (ok_numbered _ port workers c.resume-ended.result c.resume-ended.ensures.done) (err_numbered _ port workers c.resume-ended.result c.resume-ended.ensures.stop)
