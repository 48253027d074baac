-- What contracts see of a link, and what its calls do.
use Rattle.std.specs.Prelude.{◌≡◌, ℕ, ◌≤◌, Bool, true, false, ◌==◌, ◌||◌, List, [], ◌∷◌, ◌++◌}
use Rattle.std.specs.Prelude.{length, take, Option, Some, None, Result, Ok, Err}
use Rattle.desk_outside.specs.Passages.{Passage, read, wrote, write_failed, took, put, put_failed}
use Rattle.desk_outside.specs.Passages.{with_put}

-- all bytes that were taken
abbrev pub taken_of : List Passage → List ℕ
taken_of [] = []
taken_of (read name bytes ∷ log) = taken_of log
taken_of (wrote name bytes ∷ log) = taken_of log
taken_of (write_failed name bytes ∷ log) = taken_of log
taken_of (took bytes ∷ log) = bytes ++ taken_of log
taken_of (put bytes ∷ log) = taken_of log
taken_of (put_failed bytes ∷ log) = taken_of log

-- the texts that were put, each with its call
abbrev pub puts_of : List Passage → List (List ℕ)
puts_of [] = []
puts_of (read name bytes ∷ log) = puts_of log
puts_of (wrote name bytes ∷ log) = puts_of log
puts_of (write_failed name bytes ∷ log) = puts_of log
puts_of (took bytes ∷ log) = puts_of log
puts_of (put bytes ∷ log) = bytes ∷ puts_of log
puts_of (put_failed bytes ∷ log) = puts_of log

-- the whole input of a link, and what it was given so far
pub record Transcript : Type 0 where
  pub input : List ℕ
  pub sent : List ℕ

-- The transcript, where it is told; whether the input has ended; how often a call failed; and what
-- passed: bytes that were taken (none at the end of the input), and the bytes of each put.
pub record LinkView : Type 0 where
  pub told : Option Transcript
  pub ended : Bool
  pub faults : ℕ
  pub log : List Passage

-- a link as a door hands it out
abbrev pub IsFresh : LinkView → Type 0
IsFresh v = (v.ended ≡ false) × (v.faults ≡ 0) × (v.log ≡ [])

-- the bytes begin the input, where it is told
abbrev pub BeginsInput : Option Transcript → List ℕ → Type 0
BeginsInput None taken = Unit {0}
BeginsInput (Some t) taken = (rest : List ℕ) × (t.input ≡ taken ++ rest)

-- the bytes are the whole input, where it is told
abbrev pub IsInput : Option Transcript → List ℕ → Type 0
IsInput None taken = Unit {0}
IsInput (Some t) taken = t.input ≡ taken

-- After a take of so many bytes, which stand at the front of what it was handed. The input has
-- ended once a take gave none. Where it is told, all that was taken so far begins it, and is all
-- of it once it has ended.
pub record HasTaken (v : LinkView) (n : ℕ) (into : List ℕ) (w : LinkView) : Type 0 where
  pub within : n ≤ length into
  pub log : w.log ≡ v.log ++ took (take n into) ∷ []
  pub ended : w.ended ≡ (v.ended || (n == 0))
  pub told : w.told ≡ v.told
  pub input : BeginsInput w.told (taken_of w.log)
  pub whole : w.ended ≡ true → IsInput w.told (taken_of w.log)

-- the bytes were taken: none at the end of the input
abbrev pub with_taken_bytes : LinkView → List ℕ → LinkView
with_taken_bytes v bytes = record v {
  ended = v.ended || (length bytes == 0);
  log = v.log ++ took bytes ∷ [];
}

-- a take that failed let nothing pass
abbrev pub TakesBytes : {E : Type 0} → LinkView → Result ℕ E → List ℕ → LinkView → Type 0
TakesBytes v (Ok n) into w = HasTaken v n into w
TakesBytes v (Err fault) into w = (w.log ≡ v.log) × (w.ended ≡ v.ended) × (w.told ≡ v.told)

-- the bytes follow what was sent, where that is told
abbrev pub FollowSent : Option Transcript → List ℕ → Option Transcript → Type 0
FollowSent None bytes after = after ≡ None
FollowSent (Some t) bytes after = after ≡ Some (record t { sent = t.sent ++ bytes })

-- a put sends all bytes; one that failed sent a front of them, perhaps none
abbrev pub HasSent : {E : Type 0} → Option Transcript → List ℕ → Result (Unit {0}) E
    → Option Transcript → Type 0
HasSent told bytes (Ok _) after = FollowSent told bytes after
HasSent told bytes (Err fault) after = (n : ℕ) × FollowSent told (take n bytes) after

pub record SendsBytes {E : Type 0} (v : LinkView) (bytes : List ℕ) (result : Result (Unit {0}) E)
    (w : LinkView) : Type 0 where
  pub log : w.log ≡ with_put v.log bytes result
  pub ended : w.ended ≡ v.ended
  pub told : HasSent v.told bytes result w.told
