-- What passes through an object of the outside, in the order of its calls: what the system handed
-- out, and what it was handed. It says nothing of what a file holds.
use Rattle.std.specs.Prelude.{ℕ, List, [], ◌∷◌, ◌++◌, Result, Ok, Err}
use Rattle.std.specs.Global.{Vec}

-- A file of this name was read, and these bytes were handed out. A file was written with these
-- bytes, or a write with them failed. The bytes were taken, and none at the end of the input. The
-- bytes were put, or a put of them failed.
pub data Passage : Type 0 where
  read : List ℕ → List ℕ → Passage
  wrote : List ℕ → List ℕ → Passage
  write_failed : List ℕ → List ℕ → Passage
  took : List ℕ → Passage
  put : List ℕ → Passage
  put_failed : List ℕ → Passage

-- A read that answers with bytes handed them out. One that answers with a fault handed out nothing,
-- and leaves the log.
abbrev pub with_read : {E : Type 0} → List Passage → List ℕ → Result (Vec ℕ) E → List Passage
with_read log name (Ok bytes) = log ++ read name bytes.items ∷ []
with_read log name (Err fault) = log

-- a write that failed leaves the attempt, since the file may hold a front of its bytes
abbrev pub with_write : {E : Type 0} → List Passage → List ℕ → List ℕ → Result (Unit {0}) E
    → List Passage
with_write log name bytes (Ok _) = log ++ wrote name bytes ∷ []
with_write log name bytes (Err fault) = log ++ write_failed name bytes ∷ []

-- a put that failed leaves the attempt, since a front of its bytes may have gone out
abbrev pub with_put : {E : Type 0} → List Passage → List ℕ → Result (Unit {0}) E → List Passage
with_put log bytes (Ok _) = log ++ put bytes ∷ []
with_put log bytes (Err fault) = log ++ put_failed bytes ∷ []

-- what contracts see of an object that does not tell what it holds: how often a call failed, and
-- what passed
pub record Counted : Type 0 where
  pub faults : ℕ
  pub log : List Passage
