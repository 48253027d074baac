use Rattle.std.proofs.Common.{◌≡◌, length}
use Rattle.desk_links.specs.Links.{taken_of}
use Rattle.session_desk.specs.Passed.{HasPassed}
use Rattle.session_desk.specs.Seen.{SeenGoesOn}
use Rattle.session_desk.specs.Private.Held.{IsSized}
use Rattle.session_desk.specs.Private.Reading.{IsAt}
use Rattle.session_desk.proofs.session.serve.Given as goal

abbrev pub invariant-loop : goal.invariant-loop
invariant-loop g l =
    IsSized l.pending × g.A.Responder.ready l.responder l.pass × (length l.piece ≡ 4096)
    × ((g.L.Link.view l.link).faults ≡ (g.L.Link.view l.initial.link).faults)
    × HasPassed (g.L.Link.view l.initial.link).told (g.L.Link.view l.link)
    × IsAt (g.A.Responder.answers (g.A.Responder.about l.responder)) (g.A.Responder.begins (g.A.Responder.about l.responder)) (g.A.Responder.own l.initial.pass) l.pending (taken_of (g.L.Link.view l.link).log) (g.L.Link.view l.link).log (g.A.Responder.own l.pass)
    × SeenGoesOn (g.A.Responder.legal l.responder) (g.A.Responder.seen l.initial.pass) (g.A.Responder.seen l.pass)
