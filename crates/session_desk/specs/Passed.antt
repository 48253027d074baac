-- What passed over a link in a session, by its log.
use Rattle.std.specs.Prelude.{◌≡◌, ℕ, ◌+◌, true, List, [], ◌∷◌, ◌++◌, length, take}
use Rattle.std.specs.Prelude.{Option, Some, None}
use Rattle.scr_reader.specs.Streams.{complete_messages}
use Rattle.desk_outside.specs.Passages.{Passage, read, wrote, write_failed, took, put, put_failed}
use Rattle.desk_links.specs.Links.{Transcript, LinkView, taken_of}

-- Each take came when every message that was complete by then had its text put whole; after a put
-- that failed nothing passed. So far these bytes were taken, and so many texts were put.
abbrev pub InOrder : List ℕ → ℕ → List Passage → Type 0
InOrder taken texts [] = Unit {0}
InOrder taken texts (read name bytes ∷ log) = ⊥
InOrder taken texts (wrote name bytes ∷ log) = ⊥
InOrder taken texts (write_failed name bytes ∷ log) = ⊥
InOrder taken texts (took bytes ∷ log) =
    (texts ≡ length (complete_messages taken)) × InOrder (taken ++ bytes) texts log
InOrder taken texts (put bytes ∷ log) = InOrder taken (texts + 1) log
InOrder taken texts (put_failed bytes ∷ log) = log ≡ []

-- no put failed
abbrev pub NoneFailed : List Passage → Type 0
NoneFailed [] = Unit {0}
NoneFailed (read name bytes ∷ log) = NoneFailed log
NoneFailed (wrote name bytes ∷ log) = NoneFailed log
NoneFailed (write_failed name bytes ∷ log) = NoneFailed log
NoneFailed (took bytes ∷ log) = NoneFailed log
NoneFailed (put bytes ∷ log) = NoneFailed log
NoneFailed (put_failed bytes ∷ log) = ⊥

-- the bytes that were sent: the texts that were put, and of one whose put failed a front
abbrev pub WereSent : List Passage → List ℕ → Type 0
WereSent [] sent = sent ≡ []
WereSent (read name bytes ∷ log) sent = WereSent log sent
WereSent (wrote name bytes ∷ log) sent = WereSent log sent
WereSent (write_failed name bytes ∷ log) sent = WereSent log sent
WereSent (took bytes ∷ log) sent = WereSent log sent
WereSent (put bytes ∷ log) sent =
    (later : List ℕ) × (sent ≡ bytes ++ later) × WereSent log later
WereSent (put_failed bytes ∷ log) sent =
    (n : ℕ) × (later : List ℕ) × (sent ≡ take n bytes ++ later) × WereSent log later

-- The link's transcript, which was this before anything passed: its input begins with what was
-- taken, and is that where it has ended; and what was sent followed what it was given before.
pub record TellsPassed (t : Transcript) (v : LinkView) : Type 0 where
  pub sent : List ℕ
  pub told : v.told ≡ Some (record t { sent = t.sent ++ sent })
  pub were_sent : WereSent v.log sent
  pub input : (rest : List ℕ) × (t.input ≡ taken_of v.log ++ rest)
  pub whole : v.ended ≡ true → t.input ≡ taken_of v.log

-- the same of a link that may tell its transcript
abbrev pub HasPassed : Option Transcript → LinkView → Type 0
HasPassed None v = v.told ≡ None
HasPassed (Some t) v = TellsPassed t v
