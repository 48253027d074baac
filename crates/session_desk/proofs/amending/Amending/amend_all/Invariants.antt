use Rattle.std.proofs.Common.{◌≡◌, ◌≤◌, length, take}
use Rattle.std.specs.Prelude.{vec_capacity}
use Rattle.turn_lock.specs.Seats.{IsAtRest}
use Rattle.session_desk.specs.Seen.{SeenGoesOn, IsLedgerHistory}
use Rattle.session_desk.specs.Private.Amended.{HasAnswers}
use Rattle.session_desk.proofs.amending.Amending.amend_all.Given as goal

abbrev pub invariant-loop-placed : goal.invariant-loop-placed
invariant-loop-placed g l =
    IsAtRest l.self.ledger.now l.pass × (l.pass.number ≡ l.self.caller)
    × HasAnswers l.self.ledger.now.origin.start.declaration.season l.self.caller (take l.placed-index l.items) (g.B.Beside.read l.initial.pass.own) (g.B.Beside.read l.pass.own) l.answers.items
    × (length l.answers.items ≡ l.placed-index) × (length l.items ≤ vec_capacity l.answers)
    × SeenGoesOn (IsLedgerHistory l.self.ledger.now.origin.start) (g.B.Beside.read l.initial.pass.seen) (g.B.Beside.read l.pass.seen)
