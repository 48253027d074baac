use Rattle.std.proofs.Common.{◌≡◌, ◌++◌, List, ℕ, take, Option}
use Rattle.desk_links.specs.Links.{Transcript, taken_of}
use Rattle.session_desk.specs.Passed.{HasPassed}
use Rattle.session_desk.specs.Seen.{SeenGoesOn}
use Rattle.session_desk.specs.Private.Held.{IsSized, IsHeld}
use Rattle.session_desk.specs.Private.Reading.{IsAt}
use Rattle.session_desk.proofs.session.read_piece.Given as goal

abbrev pub invariant-loop-byte : goal.invariant-loop-byte
invariant-loop-byte g l =
    IsSized l.pending × g.A.Responder.ready l.responder l.pass
    × (taken_of (g.L.Link.view l.link).log ≡ taken_of (g.L.Link.view l.initial.link).log)
    × ((seen : List ℕ) × IsHeld l.pending seen)
    × ((g.L.Link.view l.link).faults ≡ (g.L.Link.view l.initial.link).faults)
    × ((t : Option Transcript) → HasPassed t (g.L.Link.view l.initial.link) → HasPassed t (g.L.Link.view l.link))
    × ((before : List g.row.A-Entry.Denot) (seen : List ℕ)
    → IsAt (g.A.Responder.answers (g.A.Responder.about l.responder)) (g.A.Responder.begins (g.A.Responder.about l.responder)) before l.initial.pending seen (g.L.Link.view l.initial.link).log (g.A.Responder.own l.initial.pass)
    → IsAt (g.A.Responder.answers (g.A.Responder.about l.responder)) (g.A.Responder.begins (g.A.Responder.about l.responder)) before l.pending (seen ++ take l.byte-index l.piece) (g.L.Link.view l.link).log (g.A.Responder.own l.pass))
    × SeenGoesOn (g.A.Responder.legal l.responder) (g.A.Responder.seen l.initial.pass) (g.A.Responder.seen l.pass)
