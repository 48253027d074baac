use Rattle.session_desk.proofs.ServedLemmas.{if_none, both_some, end_stopped, one_served, one_gone_on, one_ended}
use Rattle.session_desk.proofs.worker.serve_next.Goals as goal

pub returns-in-Ok-Some-clause-next : goal.returns-in-Ok-Some-clause-next
returns-in-Ok-Some-clause-next g c =
    let one = one_served (g.A.Responder.answers (g.A.Responder.about c.args.responder.now)) (g.A.Responder.begins (g.A.Responder.about c.args.responder.now)) (g.D.Door.view c.args.door.now) (g.D.Door.view c.accept.new.self) (g.D.Door.view c.finish.new.self) (g.A.Responder.own c.args.pass.now) (g.A.Responder.own c.serve-ended.new.pass) _ _ c.serve-ended.result
    (rw c.in-Ok-Some.field-0-is at c.in-Ok-Some.ensures.link) c.in-Ok-Some.ensures.cause.kept c.finish.ensures c.serve-ended.ensures.cause c.serve-ended.ensures.session c.serve-ended.ensures.told in
    if_none c.work_after.result (λ goes. one_gone_on (g.A.Responder.answers (g.A.Responder.about c.args.responder.now)) (g.A.Responder.begins (g.A.Responder.about c.args.responder.now)) (g.D.Door.view c.args.door.now) (g.D.Door.view c.finish.new.self) (g.A.Responder.own c.args.pass.now) (g.A.Responder.own c.serve-ended.new.pass) c.serve-ended.result one goes) c.work_after.ensures.goes_on

pub returns-in-Ok-Some-clause-last : goal.returns-in-Ok-Some-clause-last
returns-in-Ok-Some-clause-last g c =
    let one = one_served (g.A.Responder.answers (g.A.Responder.about c.args.responder.now)) (g.A.Responder.begins (g.A.Responder.about c.args.responder.now)) (g.D.Door.view c.args.door.now) (g.D.Door.view c.accept.new.self) (g.D.Door.view c.finish.new.self) (g.A.Responder.own c.args.pass.now) (g.A.Responder.own c.serve-ended.new.pass) _ _ c.serve-ended.result
    (rw c.in-Ok-Some.field-0-is at c.in-Ok-Some.ensures.link) c.in-Ok-Some.ensures.cause.kept c.finish.ensures c.serve-ended.ensures.cause c.serve-ended.ensures.session c.serve-ended.ensures.told in
    both_some c.work_after.result (λ work once by links some. one_ended (g.A.Responder.answers (g.A.Responder.about c.args.responder.now)) (g.A.Responder.begins (g.A.Responder.about c.args.responder.now)) (g.D.Door.view c.args.door.now) (g.D.Door.view c.finish.new.self) (g.A.Responder.own c.args.pass.now) (g.A.Responder.own c.serve-ended.new.pass) c.serve-ended.result work links some once by one) c.work_after.ensures.few c.work_after.ensures.ends

pub returns-in-Ok-Some-clause-stopped : goal.returns-in-Ok-Some-clause-stopped
returns-in-Ok-Some-clause-stopped g c =
    both_some c.work_after.result (λ work once by. end_stopped (g.A.Responder.stopped c.args.responder.now c.serve-ended.new.pass) work.end c.serve-ended.result by c.serve-ended.ensures.stopped) c.work_after.ensures.few c.work_after.ensures.ends
