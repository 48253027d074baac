-- Histories: lists of entries that grow at their end alone. `caller` gives the number of an entry's
-- caller.
use Rattle.std.specs.Prelude.{◌≡◌, ◌⊎◌, ℕ, ◌≤◌, ◌==◌, List, [], ◌∷◌, ◌++◌, length, filter}

module _ {E : Type 0} where
  -- the history begins with what was seen
  abbrev pub StartsWith : List E → List E → Type 0
  StartsWith history seen = (later : List E) × (history ≡ seen ++ later)

  -- the entries of the caller of this number, in their order
  abbrev pub own : (E → ℕ) → ℕ → List E → List E
  own caller number history = filter (λ entry. caller entry == number) history

  -- the history begins with what was seen, and goes on with entries of other callers
  abbrev pub GoesOnFrom : (E → ℕ) → ℕ → List E → List E → Type 0
  GoesOnFrom caller number seen history = (between : List E) × (history ≡ seen ++ between)
      × (own caller number between ≡ [])

  -- the history is what was seen, or that with one entry more, which has this number
  abbrev pub MayGive : (E → ℕ) → ℕ → List E → List E → Type 0
  MayGive caller number seen history = (history ≡ seen)
      ⊎ ((entry : E) × (history ≡ seen ++ entry ∷ []) × (caller entry ≡ number))

  -- the own entries grew by the new entry of the history, if it has one
  abbrev pub Grew : List E → List E → List E → List E → Type 0
  Grew seen history before after = (history ≡ seen → after ≡ before)
      × ((entry : E) → history ≡ seen ++ entry ∷ [] → after ≡ before ++ entry ∷ [])

  -- the own entries of a beginning begin the own entries
  abbrev pub OwnEntriesBegin : (E → ℕ) → Type 0
  OwnEntriesBegin caller = (number : ℕ) (history seen : List E) → StartsWith history seen
      → StartsWith (own caller number history) (own caller number seen)

  -- entries of other callers leave the own entries as they were
  abbrev pub OthersAddNoOwn : (E → ℕ) → Type 0
  OthersAddNoOwn caller = (number : ℕ) (seen history : List E)
      → GoesOnFrom caller number seen history
      → own caller number history ≡ own caller number seen

  -- to go on twice with entries of others is to go on with entries of others
  abbrev pub GoingOnChains : (E → ℕ) → Type 0
  GoingOnChains caller = (number : ℕ) (seen middle history : List E)
      → GoesOnFrom caller number seen middle
      → GoesOnFrom caller number middle history → GoesOnFrom caller number seen history

-- a beginning of a beginning is a beginning
abbrev pub BeginningsChain : (E : Type 0) → Type 0
BeginningsChain E = (history middle seen : List E) → StartsWith history middle
    → StartsWith middle seen
    → StartsWith history seen

-- of two beginnings of one history, the shorter begins the longer
abbrev pub BeginningsNest : (E : Type 0) → Type 0
BeginningsNest E = (history longer shorter : List E) → StartsWith history longer
    → StartsWith history shorter
    → length shorter ≤ length longer → StartsWith longer shorter

-- a beginning that is as long as the whole is the whole
abbrev pub FullBeginningIsWhole : (E : Type 0) → Type 0
FullBeginningIsWhole E = (history seen : List E) → StartsWith history seen
    → length seen ≡ length history
    → seen ≡ history
