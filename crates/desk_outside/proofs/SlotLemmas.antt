-- The places of a cabinet in memory, and the files in them.
use Rattle.std.proofs.Common.{◌≡◌, ℕ, zero, suc, ◌<◌, ◌≤◌, true, false, List, [], ◌∷◌, ◌++◌, length, get_or, set, map, Some, None, refl, sym, ap, ◌∙◌, arith, inl, inr}
use Rattle.std.specs.Str.{bytes_eq}
use Rattle.std.proofs.lemmas.Bool.{cases_Bool}
use Rattle.desk_outside.specs.declared.slots.Slot.{Slot}
use Rattle.desk_outside.specs.InMemory.{HeldFile, bytes_under, put_file}
use Rattle.desk_outside.specs.Slots.{file_in}
use Rattle.desk_outside.specs.Places.{IsPlaceOf}

-- no place below has the name
abbrev pub NoneBelow : List Slot → List ℕ → ℕ → Type 0
NoneBelow slots name at = (k : ℕ) (d : Slot) → k < at → bytes_eq (get_or slots k d).name.bytes name ≡ false

later : (slot : Slot) (slots : List Slot) (name : List ℕ) (at : ℕ) → NoneBelow (slot ∷ slots) name (suc at) → NoneBelow slots name at
later slot slots name at none k d lt = none (suc k) d (omega arith)

pub place_from : (slots : List Slot) (name : List ℕ) (at : ℕ) (d : Slot) → at < length slots → bytes_eq (get_or slots at d).name.bytes name ≡ true → NoneBelow slots name at → IsPlaceOf slots name at
place_from [] name at d lt here none = absurd (omega arith)
place_from (slot ∷ slots) name zero d lt here none = here
place_from (slot ∷ slots) name (suc at) d lt here none = (none 0 slot (omega arith), place_from slots name at d (omega arith) here (later slot slots name at none))

pub none_under : (slots : List Slot) (name : List ℕ) (at : ℕ) → length slots ≤ at → NoneBelow slots name at → bytes_under (map file_in slots) name ≡ None
none_under [] name at le none = refl
none_under (slot ∷ slots) name zero le none = absurd (omega arith)
none_under (slot ∷ slots) name (suc at) le none = rw (none 0 slot (omega arith)) (none_under slots name at (omega arith) (later slot slots name at none))

-- the bytes in the place of a name are those under it
pub bytes_there : (slots : List Slot) (name : List ℕ) (at : ℕ) (d : Slot) → IsPlaceOf slots name at → bytes_under (map file_in slots) name ≡ Some (get_or slots at d).bytes.bytes
bytes_there [] name at d place = absurd place
bytes_there (slot ∷ slots) name zero d place = rw place refl
bytes_there (slot ∷ slots) name (suc at) d place = rw place.0 (bytes_there slots name at d place.1)

-- other bytes in the place of a name
pub put_there : (slots : List Slot) (name bytes : List ℕ) (at : ℕ) (new d : Slot) → IsPlaceOf slots name at → new.name.bytes ≡ (get_or slots at d).name.bytes → new.bytes.bytes ≡ bytes
    → map file_in (set slots at new) ≡ put_file (map file_in slots) name bytes
put_there [] name bytes at new d place named is = absurd place
put_there (slot ∷ slots) name bytes zero new d place named is = rw (place, named, is) refl
put_there (slot ∷ slots) name bytes (suc at) new d place named is =
    rw place.0 (ap (λ (files : List HeldFile). file_in slot ∷ files) (put_there slots name bytes at new d place.1 named is))

-- a new file stands behind all others
pub put_behind : (files : List HeldFile) (name bytes : List ℕ) → bytes_under files name ≡ None → put_file files name bytes ≡ files ++ record { name = name; bytes = bytes } ∷ []
put_behind [] name bytes absent = refl
put_behind (file ∷ files) name bytes absent =
    elim (cases_Bool (bytes_eq file.name name)) [
      | inl here ↦ absurd (let e : bytes_under (file ∷ files) name ≡ Some file.bytes = rw here refl in let none = absent in cc)
      | inr there ↦
          let tail : bytes_under files name ≡ None = let e : bytes_under (file ∷ files) name ≡ bytes_under files name = rw there refl in sym e ∙ absent in
          rw there (ap (λ (rest : List HeldFile). file ∷ rest) (put_behind files name bytes tail))
    ]
