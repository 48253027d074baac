use Rattle.std.proofs.Common.{◌-◌, arith}
use Rattle.session_desk.proofs.ServedLemmas.{nothing_served, gone_on, served_last}
use Rattle.session_desk.proofs.worker.serve_door.Goals as goal

pub loop-served-init : goal.loop-served-init
loop-served-init g c = (c.requires.ready, nothing_served (g.A.Responder.answers (g.A.Responder.about c.args.responder.now)) (g.A.Responder.begins (g.A.Responder.about c.args.responder.now)) (g.D.Door.view c.args.door.now) (g.A.Responder.own c.args.pass.now))

pub returns-in-Some-clause-served : goal.returns-in-Some-clause-served
returns-in-Some-clause-served g c =
    let left = c.args.links - c.loop-served.served in
    served_last (g.A.Responder.answers (g.A.Responder.about c.args.responder.now)) (g.A.Responder.begins (g.A.Responder.about c.args.responder.now)) c.loop-served.served left c.args.links (g.D.Door.view c.args.door.now) (g.D.Door.view c.loop-served.door) (g.D.Door.view c.serve_next.new.door) (g.A.Responder.own c.args.pass.now) (g.A.Responder.own c.loop-served.pass) (g.A.Responder.own c.serve_next.new.pass) c.in-Some.last
    (omega (arith, c.loop-served-test.true)) c.loop-served.invariant.1 (c.in-Some.ensures.last left (omega (arith, c.loop-served-test.true)))

pub loop-served-preserved : goal.loop-served-preserved
loop-served-preserved g c = (
  c.serve_next.ensures.ready,
  gone_on (g.A.Responder.answers (g.A.Responder.about c.args.responder.now)) (g.A.Responder.begins (g.A.Responder.about c.args.responder.now)) c.loop-served.served (g.D.Door.view c.args.door.now) (g.D.Door.view c.loop-served.door) (g.D.Door.view c.serve_next.new.door) (g.A.Responder.own c.args.pass.now) (g.A.Responder.own c.loop-served.pass) (g.A.Responder.own c.serve_next.new.pass) c.loop-served.invariant.1 c.in_default.ensures.next,
)
