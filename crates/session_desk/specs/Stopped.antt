-- What is known where a session stopped since an ask was refused.
use Rattle.std.specs.Prelude.{◌≡◌, ℕ, List, length}
use Rattle.holding_book.specs.declared.answer.Entry.{Entry}
use Rattle.session_desk.specs.declared.responder.AnswerFault.{AnswerFault}
use Rattle.session_desk.specs.declared.responder.AnswerFault.TheVariants as stops
use Rattle.session_desk.specs.declared.session.SessionFault.{SessionFault}
use Rattle.session_desk.specs.declared.session.SessionFault.TheVariants.{Link, TooLong, Full, Broken, Memory}

-- what holds with the refusal of an ask holds where it ended the session; memory may have run out
-- with no ask
abbrev pub StoppedBy : (AnswerFault → Type 0) → SessionFault → Type 0
StoppedBy Stopped Link = Unit {0}
StoppedBy Stopped TooLong = Unit {0}
StoppedBy Stopped (Full length) = Stopped (stops.Full length)
StoppedBy Stopped (Broken faults) = Stopped (stops.Broken faults)
StoppedBy Stopped Memory = Unit {0}

-- By what a pass has seen, as its list is read: as many entries as there may be, or the failure of
-- what is kept beside them.
abbrev pub StopsAt : {X : Type 0} → (List X → List Entry) → (List X → ℕ → Type 0) → ℕ → List X
    → AnswerFault → Type 0
StopsAt read broken most seen (stops.Full count) = length (read seen) ≡ most
StopsAt read broken most seen (stops.Broken faults) = broken seen faults
StopsAt read broken most seen stops.Memory = Unit {0}
