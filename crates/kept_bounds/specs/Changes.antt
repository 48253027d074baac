-- Ranges that change, and the units that are listed where they do.
use Rattle.std.specs.Prelude.{◌≡◌, ℕ, ◌≤◌, List, length, drop, slice_index_or}
use Rattle.std.specs.List.{Contains}

-- the ranges of all units but these are the same
abbrev pub AgreeBut : List ℕ → List (ℕ × ℕ) → List (ℕ × ℕ) → Type 0
AgreeBut units one other =
    (u : ℕ) → (Contains units u → ⊥) → slice_index_or one u (0, 0) ≡ slice_index_or other u (0, 0)

-- at some ranges so many changes have been seen: all but the last ones, and those name each unit
-- whose range is another now
pub record HasSeen (at ranges : List (ℕ × ℕ)) (changes : List ℕ) (seen : ℕ) : Type 0 where
  pub few : seen ≤ length changes
  pub others : AgreeBut (drop seen changes) at ranges
