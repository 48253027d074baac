-- Kept counts: the uses that they count, and what keeps the limits.
use Rattle.std.specs.Prelude.{◌≡◌, ℕ, ◌+◌, ◌<◌, List, length, slice_index, sum_by, ℤ, pos, ◌≤ℤ◌, Option, Some, None}
use Rattle.choice_problem.specs.declared.strips.Strip.{Strip}
use Rattle.choice_problem.specs.Strips.{part_uses}
use Rattle.choice_problem.specs.Counts.{limit_at}

-- how often the listed parts together use the resource
abbrev pub listed_uses : List (List Strip) → ℕ → ℕ
listed_uses parts r = sum_by (λ strips. part_uses strips r) parts

-- the counts equal listing: each is the number of uses of its resource by the listed parts
abbrev pub AreCountsOf : List (List Strip) → List ℕ → Type 0
AreCountsOf parts counts = (r : ℕ) → r < length counts → slice_index counts r ≡ listed_uses parts r

-- the resource's count and its further uses are together at most its limit
abbrev pub KeepsLimit : List ℕ → (ℕ → ℕ) → List ℤ → ℕ → Type 0
KeepsLimit counts uses limits r = pos (slice_index counts r + uses r) ≤ℤ limit_at limits r

-- so at each resource that is used further
abbrev pub FitsWith : List ℕ → (ℕ → ℕ) → List ℤ → Type 0
FitsWith counts uses limits = (r : ℕ) → 0 < uses r → KeepsLimit counts uses limits r

-- how often a part that may be there uses the resource
abbrev pub some_uses : Option (List Strip) → ℕ → ℕ
some_uses None r = 0
some_uses (Some strips) r = part_uses strips r

-- the uses of two parts that may be there, together
abbrev pub both_uses : Option (List Strip) → Option (List Strip) → ℕ → ℕ
both_uses one two r = some_uses one r + some_uses two r

-- no count is above its limit
abbrev pub AreWithin : List ℕ → List ℤ → Type 0
AreWithin counts limits =
    (r : ℕ) → r < length counts → pos (slice_index counts r) ≤ℤ limit_at limits r
