-- The sessions of one worker at its door, one after the other.
use Rattle.std.specs.Prelude.{◌≡◌, ◌⊎◌, ℕ, ◌+◌, ◌≤◌, List, [], ◌∷◌, ◌++◌, length, map, All}
use Rattle.std.specs.Prelude.{Result, Ok, Err, Option, Some, None}
use Rattle.desk_outside.specs.Cause.{Rose}
use Rattle.desk_links.specs.Links.{LinkView}
use Rattle.desk_links.specs.Doors.{DoorView, NoneComes}
use Rattle.session_desk.specs.Passed.{HasPassed}
use Rattle.session_desk.specs.Sessions.{IsSession, HasSessionCause}
use Rattle.session_desk.specs.declared.responder.AnswerFault.{AnswerFault}
use Rattle.session_desk.specs.declared.session.SessionEnd.{SessionEnd}
use Rattle.session_desk.specs.declared.session.SessionFault.{SessionFault}
use Rattle.session_desk.specs.declared.session.SessionFault.TheVariants.{Link, TooLong, Full, Broken, Memory}
use Rattle.session_desk.specs.declared.worker.DoorEnd.{DoorEnd}
use Rattle.session_desk.specs.declared.worker.DoorWork.{DoorWork}
use Rattle.session_desk.specs.declared.worker.DoorEnd.TheVariants as ends

-- a link as it was kept, and how its session ended
pub record Session : Type 0 where
  pub link : LinkView
  pub ended : Result SessionEnd SessionFault

abbrev pub links_of : List Session → List LinkView
links_of sessions = map (λ (s : Session). s.link) sessions

-- the link failed exactly where its session ended so: its count was 0 when it was handed out
abbrev pub HasCount : Session → Type 0
HasCount s = HasSessionCause 0 s.link.faults s.ended

-- whether its worker goes on, since the history is not full, nothing beside it has failed, and
-- memory did not run out
abbrev pub GoesOn : Result SessionEnd SessionFault → Type 0
GoesOn (Ok end) = Unit {0}
GoesOn (Err Link) = Unit {0}
GoesOn (Err TooLong) = Unit {0}
GoesOn (Err (Full length)) = ⊥
GoesOn (Err (Broken faults)) = ⊥
GoesOn (Err Memory) = ⊥

abbrev pub IsFull : Result SessionEnd SessionFault → Type 0
IsFull (Ok end) = ⊥
IsFull (Err Link) = ⊥
IsFull (Err TooLong) = ⊥
IsFull (Err (Full length)) = Unit {0}
IsFull (Err (Broken faults)) = ⊥
IsFull (Err Memory) = ⊥

abbrev pub IsBroken : Result SessionEnd SessionFault → Type 0
IsBroken (Ok end) = ⊥
IsBroken (Err Link) = ⊥
IsBroken (Err TooLong) = ⊥
IsBroken (Err (Full length)) = ⊥
IsBroken (Err (Broken faults)) = Unit {0}
IsBroken (Err Memory) = ⊥

abbrev pub AllGoOn : List Session → Type 0
AllGoOn sessions = All (λ (s : Session). GoesOn s.ended) sessions

-- after the last of these sessions the worker did not go on, and why
pub record LastEnds (so : Result SessionEnd SessionFault → Type 0) (sessions : List Session)
    : Type 0 where
  pub front : List Session
  pub last : Session
  pub are : sessions ≡ front ++ last ∷ []
  pub went_on : AllGoOn front
  pub ends : so last.ended

-- The links had the next inputs of the door, one after the other, where these are told, and these
-- are left. Each had been sent nothing.
abbrev pub HadInputs : Option (List (List ℕ)) → List Session → Option (List (List ℕ)) → Type 0
HadInputs None sessions left = left ≡ None
HadInputs (Some inputs) [] left = left ≡ Some inputs
HadInputs (Some []) (s ∷ sessions) left = ⊥
HadInputs (Some (input ∷ inputs)) (s ∷ sessions) left =
    HasPassed (Some (record { input = input; sent = [] })) s.link
    × HadInputs (Some inputs) sessions left

-- Why a worker ended, of a door that was to hand out so many links: it served these, or all that
-- came; in its last session the history was full, what is kept beside it had failed, or memory ran
-- out; or its door failed.
abbrev pub EndsWorker : DoorEnd → ℕ → List Session → DoorView → DoorView → Type 0
EndsWorker ends.Served links sessions d e = AllGoOn sessions × (e.faults ≡ d.faults)
    × ((length sessions ≡ links) ⊎ NoneComes e.coming)
EndsWorker ends.Full links sessions d e = LastEnds IsFull sessions × (e.faults ≡ d.faults)
EndsWorker ends.Broken links sessions d e = LastEnds IsBroken sessions × (e.faults ≡ d.faults)
EndsWorker ends.Memory links sessions d e =
    LastEnds (λ ended. ended ≡ Err Memory) sessions × (e.faults ≡ d.faults)
EndsWorker ends.Door links sessions d e = AllGoOn sessions × Rose d.faults e.faults

module _ {E : Type 0} (Answers : List (List ℕ) → List E → List ℕ → Type 0)
    (Begins : AnswerFault → List (List ℕ) → List E → Type 0) where
  -- the sessions are right, and their entries follow each other behind those from before
  abbrev pub AreSessions : List E → List Session → List E → Type 0
  AreSessions before [] entries = entries ≡ before
  AreSessions before (s ∷ sessions) entries = (between : List E)
      × IsSession Answers Begins before s.ended s.link between
      × AreSessions between sessions entries

  -- a worker served all links that its door handed out, all of them kept, at most so many, until it
  -- ended
  pub record HasServed (links : ℕ) (d : DoorView) (before : List E) (work : DoorWork)
      (e : DoorView) (entries : List E) : Type 0 where
    pub sessions : List Session
    pub kept : e.kept ≡ d.kept ++ links_of sessions
    pub admitted : e.admitted ≡ d.admitted + length sessions
    pub right : AreSessions before sessions entries
    pub count : work.links ≡ length sessions
    pub few : length sessions ≤ links
    pub counts : All HasCount sessions
    pub inputs : HadInputs d.coming sessions e.coming
    pub ended : EndsWorker work.end links sessions d e
