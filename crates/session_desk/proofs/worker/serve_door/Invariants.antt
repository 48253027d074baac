use Rattle.session_desk.specs.Private.Serving.{HasGoneOn}
use Rattle.session_desk.proofs.worker.serve_door.Given as goal

abbrev pub invariant-loop-served : goal.invariant-loop-served
invariant-loop-served g l = g.A.Responder.ready l.responder l.pass
    × HasGoneOn (g.A.Responder.answers (g.A.Responder.about l.responder)) (g.A.Responder.begins (g.A.Responder.about l.responder)) l.served (g.D.Door.view l.initial.door) (g.A.Responder.own l.initial.pass) (g.D.Door.view l.door) (g.A.Responder.own l.pass)
