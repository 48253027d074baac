-- What is kept beside a history in the same turn: how the one list of the turn is read as the
-- history, and why an ask was not entered.
use Rattle.std.specs.Prelude.{◌≡◌, ◌⊎◌, ℕ, ◌+◌, ◌<◌, List, [], ◌∷◌, ◌++◌, length}
use Rattle.turn_lock.specs.History.{own}
use Rattle.holding_book.specs.declared.answer.Entry.{Entry}
use Rattle.slot_ledger.specs.Starts.{entry_caller}
use Rattle.slot_ledger.specs.declared.fault.EnterFault.{EnterFault}
use Rattle.slot_ledger.specs.declared.fault.EnterFault.TheVariants.{Full, Broken, Memory}

module _ {X : Type 0} where
  -- a list is read part by part
  abbrev pub ReadsParts : (List X → List Entry) → Type 0
  ReadsParts read = (xs ys : List X) → read (xs ++ ys) ≡ read xs ++ read ys

  -- of an entry that is told, by its caller
  abbrev pub ReadsEntries : (List X → List Entry) → (Entry → X) → (X → ℕ) → Type 0
  ReadsEntries read done number = (entry : Entry) → (read (done entry ∷ []) ≡ entry ∷ [])
      × (number (done entry) ≡ entry.caller)

  -- what a caller told is read as the entries of that caller
  abbrev pub ReadsOwn : (List X → List Entry) → (X → ℕ) → Type 0
  ReadsOwn read number = (caller : ℕ) (xs : List X) →
      own entry_caller caller (read xs) ≡ read (own number caller xs)

  -- one entry more of the history is one more of the list
  abbrev pub TellsNext : (Entry → X) → (List Entry → List X) → (List Entry → List X) → Type 0
  TellsNext done old new = (history : List Entry) (entry : Entry) →
      new (history ++ entry ∷ []) ≡ old history ++ done entry ∷ []

  -- the list stays, or a mark of the caller of this number follows, which is read as no entry
  abbrev pub MayMark : (List X → List Entry) → (X → ℕ) → ℕ → List X → List X → Type 0
  MayMark read number caller xs ys = (ys ≡ xs)
      ⊎ ((mark : X) × (ys ≡ xs ++ mark ∷ []) × (number mark ≡ caller) × (read (mark ∷ []) ≡ []))

  -- the list says of no failure
  pub record IsUnbroken (broken : List X → ℕ → Type 0) (xs : List X) : Type 0 where
    pub never : (faults : ℕ) → broken xs faults → ⊥

  -- why an ask was not kept, by what the list is then
  abbrev pub IsKeepFault : (List X → ℕ → Type 0) → List X → EnterFault → Type 0
  IsKeepFault broken xs (Full count) = ⊥
  IsKeepFault broken xs (Broken faults) = broken xs faults
  IsKeepFault broken xs Memory = IsUnbroken broken xs

  -- Why an ask was not entered, by what the list is then: a failure first, and then that it is read
  -- as so many entries as it may be. The number of Full counts those too that were found before.
  abbrev pub RefusedAt : (List X → List Entry) → (List X → ℕ → Type 0) → ℕ → ℕ → List X
      → EnterFault → Type 0
  RefusedAt read broken found most xs (Full count) =
      (count ≡ found + length (read xs)) × (length (read xs) ≡ most) × IsUnbroken broken xs
  RefusedAt read broken found most xs (Broken faults) = broken xs faults
  RefusedAt read broken found most xs Memory = (length (read xs) < most) × IsUnbroken broken xs
