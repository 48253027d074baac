-- Where a session stands while it reads.
use Rattle.std.specs.Prelude.{◌≡◌, ◌⊎◌, ℕ, true, List, [], ◌∷◌, ◌++◌, Result, Ok, Err}
use Rattle.scr_reader.specs.Streams.{complete_messages, served_messages, is_broken}
use Rattle.scr_reader.specs.Streams.{is_broken_at_end}
use Rattle.desk_outside.specs.Passages.{Passage, put_failed}
use Rattle.session_desk.specs.Passed.{InOrder}
use Rattle.session_desk.specs.Sessions.{EndsBy, HasAnswered, HasAnsweredFirst, HasBegun, HasNotSent}
use Rattle.session_desk.specs.Private.Held.{IsHeld}
use Rattle.session_desk.specs.declared.pending.Pending.{Pending}
use Rattle.session_desk.specs.declared.responder.AnswerFault.{AnswerFault}
use Rattle.session_desk.specs.declared.responder.AnswerFault.TheVariants as stops
use Rattle.session_desk.specs.declared.session.SessionEnd.{SessionEnd}
use Rattle.session_desk.specs.declared.session.SessionFault.{SessionFault}
use Rattle.session_desk.specs.declared.session.SessionFault.TheVariants.{Link, TooLong, Full, Broken, Memory}

-- what the end of the input says
abbrev pub EndsSo : Result SessionEnd SessionFault → List ℕ → Type 0
EndsSo (Ok end) taken = EndsBy end taken
EndsSo (Err Link) taken = ⊥
EndsSo (Err TooLong) taken = (is_broken_at_end taken ≡ true)
    × (served_messages taken ≡ complete_messages taken)
EndsSo (Err (Full length)) taken = ⊥
EndsSo (Err (Broken faults)) taken = ⊥
EndsSo (Err Memory) taken = ⊥

module _ {E : Type 0} (Answers : List (List ℕ) → List E → List ℕ → Type 0)
    (Begins : AnswerFault → List (List ℕ) → List E → Type 0) (before : List E) where
  -- all that was seen so far is answered
  pub record IsAt (pending : Pending) (seen : List ℕ) (log : List Passage) (entries : List E)
      : Type 0 where
    pub held : IsHeld pending seen
    pub order : InOrder [] 0 log
    pub answered : HasAnswered Answers Begins before (complete_messages seen) log entries

  -- why the reading stopped, by what was seen, whatever bytes follow it
  abbrev pub StopsRight : SessionFault → List ℕ → List Passage → List E → Type 0
  StopsRight Link seen log entries =
      (more : List ℕ) → HasNotSent Answers Begins before (seen ++ more) log entries
  StopsRight TooLong seen log entries = (is_broken seen ≡ true)
      × HasAnswered Answers Begins before (served_messages seen) log entries
  StopsRight (Full length) seen log entries = (more : List ℕ)
      → HasBegun Answers Begins before (stops.Full length) (seen ++ more) log entries
  StopsRight (Broken faults) seen log entries = (more : List ℕ)
      → HasBegun Answers Begins before (stops.Broken faults) (seen ++ more) log entries
  StopsRight Memory seen log entries = (more : List ℕ)
      → HasBegun Answers Begins before stops.Memory (seen ++ more) log entries
      ⊎ HasAnsweredFirst Answers Begins before (seen ++ more) log entries

  pub record HasStopped (fault : SessionFault) (seen : List ℕ) (log : List Passage)
      (entries : List E) : Type 0 where
    pub order : InOrder [] 0 log
    pub right : StopsRight fault seen log entries

  -- it stopped within a piece
  pub record HasStoppedWithin (fault : SessionFault) (seen piece : List ℕ) (log : List Passage)
      (entries : List E) : Type 0 where
    pub front : List ℕ
    pub back : List ℕ
    pub cut : piece ≡ front ++ back
    pub stopped : HasStopped fault (seen ++ front) log entries

module _ {E : Type 0} (Answers : List (List ℕ) → List E → List ℕ → Type 0)
    (Begins : AnswerFault → List (List ℕ) → List E → Type 0) where
  -- ---- one message

  -- it is answered, and its text was put, or failed to be
  pub record IsPut (passage : List ℕ → Passage) (message : List (List ℕ))
      (before after : List E) (log now : List Passage) : Type 0 where
    pub own : List E
    pub text : List ℕ
    pub entries_are : after ≡ before ++ own
    pub answers : Answers message own text
    pub log_is : now ≡ log ++ passage text ∷ []

  -- some of its asks are answered, and nothing was put
  pub record IsGivenUp (fault : AnswerFault) (message : List (List ℕ)) (before after : List E)
      (log now : List Passage) : Type 0 where
    pub own : List E
    pub entries_are : after ≡ before ++ own
    pub begins : Begins fault message own
    pub log_is : now ≡ log

  abbrev pub AnswerStops : SessionFault → List (List ℕ) → List E → List E → List Passage
      → List Passage → Type 0
  AnswerStops Link message before after log now = IsPut put_failed message before after log now
  AnswerStops TooLong message before after log now = ⊥
  AnswerStops (Full length) message before after log now =
      IsGivenUp (stops.Full length) message before after log now
  AnswerStops (Broken faults) message before after log now =
      IsGivenUp (stops.Broken faults) message before after log now
  AnswerStops Memory message before after log now =
      IsGivenUp stops.Memory message before after log now
