-- Bytes that one line may hold, and bytes that one field may hold.
use Rattle.std.specs.Prelude.{ℕ, ◌≤◌, List, [], ◌∷◌}

-- bytes from the space on: what one line may hold, without tabs
abbrev pub IsLineText : List ℕ → Type 0
IsLineText [] = Unit {0}
IsLineText (b ∷ text) = (32 ≤ b) × IsLineText text

-- bytes above the space: what one field may hold
abbrev pub IsFieldText : List ℕ → Type 0
IsFieldText [] = Unit {0}
IsFieldText (b ∷ text) = (33 ≤ b) × IsFieldText text
