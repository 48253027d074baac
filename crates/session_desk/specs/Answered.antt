-- Messages that were answered one after the other.
use Rattle.std.specs.Prelude.{◌≡◌, ℕ, List, [], ◌∷◌, ◌++◌}

module _ {E : Type 0} (Answers : List (List ℕ) → List E → List ℕ → Type 0) where
  -- each message has its own entries and its text, in order
  abbrev pub AreAnswered : List (List (List ℕ)) → List E → List (List ℕ) → Type 0
  AreAnswered [] entries [] = entries ≡ []
  AreAnswered [] entries (text ∷ texts) = ⊥
  AreAnswered (message ∷ messages) entries [] = ⊥
  AreAnswered (message ∷ messages) entries (text ∷ texts) =
      (own : List E) × (later : List E) × (entries ≡ own ++ later) × Answers message own text
      × AreAnswered messages later texts
