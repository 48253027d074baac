-- Where the file of a name stands among the places of a cabinet in memory.
use Rattle.std.specs.Prelude.{◌≡◌, ℕ, zero, suc, true, false, List, [], ◌∷◌}
use Rattle.std.specs.Str.{bytes_eq}
use Rattle.desk_outside.specs.declared.slots.Slot.{Slot}

-- the first place with the name
abbrev pub IsPlaceOf : List Slot → List ℕ → ℕ → Type 0
IsPlaceOf [] name at = ⊥
IsPlaceOf (slot ∷ slots) name zero = bytes_eq slot.name.bytes name ≡ true
IsPlaceOf (slot ∷ slots) name (suc at) = (bytes_eq slot.name.bytes name ≡ false)
    × IsPlaceOf slots name at
