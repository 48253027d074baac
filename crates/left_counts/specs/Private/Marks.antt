-- The marks of full resources, in words of 64 bits.
use Rattle.std.specs.Prelude.{◌≡◌, ℕ, ◌*◌, ◌/◌, ◌%◌, ◌^◌, ◌<◌, ◌≤◌, ◌==◌, if◌then◌else◌, List, length, slice_index}
use Rattle.std.specs.Int.{bit_at}

-- the mark of a resource: 1 or 0
abbrev pub mark_at : List ℕ → ℕ → ℕ
mark_at words r = bit_at (slice_index words (r / 64)) (r % 64)

-- the mark that a resource is due: 1 where nothing is left of it
abbrev pub due_mark : List ℕ → ℕ → ℕ
due_mark left r = if slice_index left r == 0 then 1 else 0

-- what is used and of which nothing is left is marked, and the other marks stay
abbrev pub AreMarked : List ℕ → (ℕ → ℕ) → List ℕ → List ℕ → Type 0
AreMarked left uses old new = (r : ℕ) → r < length left →
    (0 < uses r → slice_index left r ≡ 0 → mark_at new r ≡ 1)
    × (uses r ≡ 0 → mark_at new r ≡ mark_at old r)
    × (1 ≤ slice_index left r → mark_at new r ≡ mark_at old r)

-- what is used is not marked, and the other marks stay
abbrev pub AreCleared : (ℕ → ℕ) → List ℕ → List ℕ → Type 0
AreCleared uses old new = (r : ℕ) →
    (0 < uses r → mark_at new r ≡ 0) × (uses r ≡ 0 → mark_at new r ≡ mark_at old r)

-- each resource has the mark that it is due
pub record AreMarks (left words : List ℕ) : Type 0 where
  pub few : length left < 2 ^ 32
  pub room : length left ≤ 64 * length words
  pub each : (r : ℕ) → r < length left → mark_at words r ≡ due_mark left r
