-- Units that are marked, each once. Contracts of private functions alone cite this.
use Rattle.std.specs.Prelude.{◌≡◌, ℕ, ◌<◌, Bool, true, false, List, length, All, slice_index_or}
use Rattle.std.specs.List.{Contains}

-- units of so many
pub record MarkedView : Type 0 where
  pub most : ℕ
  pub units : List ℕ

-- no number comes twice
abbrev pub AreOnce : List ℕ → Type 0
AreOnce units =
    (i j : ℕ) → i < j → j < length units →
    slice_index_or units i 0 ≡ slice_index_or units j 0 → ⊥

-- a flag for each unit, which is set where the unit is marked
pub record AreMarked (flags : List Bool) (units : List ℕ) : Type 0 where
  pub there : All (λ u. u < length flags) units
  pub once : AreOnce units
  pub set : (u : ℕ) → Contains units u → slice_index_or flags u false ≡ true
  pub marked : (u : ℕ) → slice_index_or flags u false ≡ true → Contains units u
