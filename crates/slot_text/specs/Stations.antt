-- Airports by their letters.
use Rattle.std.specs.Prelude.{ℕ, ◌≤◌, List, [], ◌∷◌}

-- a letter from A to Z
abbrev pub IsLetter : ℕ → Type 0
IsLetter b = (65 ≤ b) × (b ≤ 90)

-- exactly three letters
abbrev pub IsStation : List ℕ → Type 0
IsStation (a ∷ b ∷ c ∷ []) = IsLetter a × IsLetter b × IsLetter c
IsStation text = ⊥
