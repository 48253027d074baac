-- Right sessions.
use Rattle.std.specs.Prelude.{◌≡◌, ◌⊎◌, ℕ, true, false, List, [], ◌∷◌, ◌++◌, Result, Ok, Err}
use Rattle.scr_reader.specs.Streams.{complete_messages, served_messages, is_broken}
use Rattle.scr_reader.specs.Streams.{messages_at_end, is_broken_at_end}
use Rattle.desk_outside.specs.Cause.{Rose}
use Rattle.desk_outside.specs.Passages.{Passage, put_failed}
use Rattle.desk_links.specs.Links.{LinkView, taken_of, puts_of}
use Rattle.session_desk.specs.Answered.{AreAnswered}
use Rattle.session_desk.specs.Passed.{InOrder, NoneFailed}
use Rattle.session_desk.specs.declared.responder.AnswerFault.{AnswerFault}
use Rattle.session_desk.specs.declared.responder.AnswerFault.TheVariants as stops
use Rattle.session_desk.specs.declared.session.SessionEnd.{SessionEnd}
use Rattle.session_desk.specs.declared.session.SessionEnd.TheVariants.{Ended, Cut}
use Rattle.session_desk.specs.declared.session.SessionFault.{SessionFault}
use Rattle.session_desk.specs.declared.session.SessionFault.TheVariants.{Link, TooLong, Full, Broken, Memory}

-- by the link's count of faults, before a session and now: a link fault has raised it, and no other
-- end has changed it
abbrev pub FaultCause : SessionFault → ℕ → ℕ → Type 0
FaultCause Link before now = Rose before now
FaultCause TooLong before now = now ≡ before
FaultCause (Full length) before now = now ≡ before
FaultCause (Broken faults) before now = now ≡ before
FaultCause Memory before now = now ≡ before

abbrev pub HasSessionCause : {T : Type 0} → ℕ → ℕ → Result T SessionFault → Type 0
HasSessionCause before now (Ok end) = now ≡ before
HasSessionCause before now (Err fault) = FaultCause fault before now

-- the input ended, no limit was broken, and an empty line ended the last message, or none did
abbrev pub EndsBy : SessionEnd → List ℕ → Type 0
EndsBy Ended taken = (is_broken_at_end taken ≡ false)
    × (messages_at_end taken ≡ complete_messages taken)
EndsBy Cut taken = (is_broken_at_end taken ≡ false)
    × (messages_at_end taken ≡ complete_messages taken → ⊥)

-- a message has broken a limit, or has done so where the input ended
abbrev pub BreaksBy : LinkView → Type 0
BreaksBy v = (is_broken (taken_of v.log) ≡ true)
    ⊎ ((v.ended ≡ true) × (is_broken_at_end (taken_of v.log) ≡ true))

-- What is answered to a message, and what is begun of one that is not answered whole; and all
-- entries of the caller from before the session.
module _ {E : Type 0} (Answers : List (List ℕ) → List E → List ℕ → Type 0)
    (Begins : AnswerFault → List (List ℕ) → List E → Type 0) (before : List E) where
  -- These messages are answered, and exactly their texts were put. The entries are all entries of
  -- the caller, those from before the session first.
  pub record HasAnswered (messages : List (List (List ℕ))) (log : List Passage) (entries : List E)
      : Type 0 where
    pub own : List E
    pub entries_are : entries ≡ before ++ own
    pub answered : AreAnswered Answers messages own (puts_of log)
    pub calm : NoneFailed log

  -- the first of the messages that are to be answered are: those before one that breaks a limit
  pub record HasAnsweredFirst (taken : List ℕ) (log : List Passage) (entries : List E)
      : Type 0 where
    pub first : List (List (List ℕ))
    pub later : List (List (List ℕ))
    pub messages : served_messages taken ≡ first ++ later
    pub answered : HasAnswered first log entries

  -- they are, and of the next one some asks were answered before it was given up
  pub record HasBegun (fault : AnswerFault) (taken : List ℕ) (log : List Passage)
      (entries : List E) : Type 0 where
    pub first : List (List (List ℕ))
    pub next : List (List ℕ)
    pub later : List (List (List ℕ))
    pub done : List E
    pub begun : List E
    pub messages : served_messages taken ≡ first ++ next ∷ later
    pub answered : HasAnswered first log done
    pub begins : Begins fault next begun
    pub entries_are : entries ≡ done ++ begun

  -- they are, and all asks of the next one were answered, but the put of its text failed
  pub record HasNotSent (taken : List ℕ) (log : List Passage) (entries : List E) : Type 0 where
    pub first : List (List (List ℕ))
    pub next : List (List ℕ)
    pub later : List (List (List ℕ))
    pub passed : List Passage
    pub text : List ℕ
    pub done : List E
    pub own : List E
    pub messages : served_messages taken ≡ first ++ next ∷ later
    pub failed : log ≡ passed ++ put_failed text ∷ []
    pub answered : HasAnswered first passed done
    pub answers : Answers next own text
    pub entries_are : entries ≡ done ++ own

  -- What was answered and put, by how the session ended. A link failed in a take or in a put. A
  -- message broke a limit by the bytes that were taken, or where the input ended.
  abbrev pub EndsRight : Result SessionEnd SessionFault → LinkView → List E → Type 0
  EndsRight (Ok end) v entries = (v.ended ≡ true) × EndsBy end (taken_of v.log)
      × HasAnswered (complete_messages (taken_of v.log)) v.log entries
  EndsRight (Err Link) v entries =
      HasAnswered (served_messages (taken_of v.log)) v.log entries
      ⊎ HasNotSent (taken_of v.log) v.log entries
  EndsRight (Err TooLong) v entries = BreaksBy v
      × HasAnswered (served_messages (taken_of v.log)) v.log entries
  EndsRight (Err (Full length)) v entries =
      HasBegun (stops.Full length) (taken_of v.log) v.log entries
  EndsRight (Err (Broken faults)) v entries =
      HasBegun (stops.Broken faults) (taken_of v.log) v.log entries
  EndsRight (Err Memory) v entries = HasBegun stops.Memory (taken_of v.log) v.log entries
      ⊎ HasAnsweredFirst (taken_of v.log) v.log entries

  -- a session over a link that was fresh, as the link was afterwards
  pub record IsSession (result : Result SessionEnd SessionFault) (v : LinkView)
      (entries : List E) : Type 0 where
    pub order : InOrder [] 0 v.log
    pub right : EndsRight result v entries
