-- Counts of uses, one number for each resource, to which uses are added and from which they are taken.
use Rattle.std.specs.Prelude.{◌≡◌, ℕ, ◌+◌, ◌<◌, ◌≤◌, ◌^◌, List, length, slice_index, slice_index_or, ℤ, pos, ◌≤ℤ◌, ◌<ℤ◌}

-- each count grew by the uses of its resource
abbrev pub GrowsBy : List ℕ → List ℕ → (ℕ → ℕ) → Type 0
GrowsBy old new uses = (r : ℕ) → r < length old → slice_index new r ≡ slice_index old r + uses r

-- each count has room for the uses of its resource
abbrev pub HasRoom : List ℕ → (ℕ → ℕ) → Type 0
HasRoom counts uses = (r : ℕ) → r < length counts → slice_index counts r + uses r < 2 ^ 32

-- each count is at least the uses of its resource
abbrev pub HasUses : List ℕ → (ℕ → ℕ) → Type 0
HasUses counts uses = (r : ℕ) → r < length counts → uses r ≤ slice_index counts r

-- the limit of a resource
abbrev pub limit_at : List ℤ → ℕ → ℤ
limit_at limits r = slice_index_or limits r (pos 0)

-- the lowest resource whose count is above its limit
pub record IsFirstAbove (counts : List ℕ) (limits : List ℤ) (r : ℕ) : Type 0 where
  pub there : r < length counts
  pub above : limit_at limits r <ℤ pos (slice_index counts r)
  pub first : (q : ℕ) → q < r → pos (slice_index counts q) ≤ℤ limit_at limits q
