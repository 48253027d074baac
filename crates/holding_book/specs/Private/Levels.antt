-- The shifts of a line by rising cost: a level is the cost of some of them.
use Rattle.std.specs.Prelude.{◌≡◌, ℕ, ◌≤◌, ◌==◌, ◌&&◌, nat_le, Bool, true, false, if◌then◌else◌, List, [], ◌∷◌, All, Contains, Option, Some, None, count_by}
use Rattle.series_model.specs.declared.times.Times.{Times}

-- a cost at most that of the last level
abbrev pub is_passed : Option ℕ → ℕ → Bool
is_passed None cost = false
is_passed (Some last) cost = nat_le cost last

-- a cost behind the last level that is less than the least so far, else that
abbrev pub lesser : Option ℕ → Option ℕ → ℕ → Option ℕ
lesser None last cost = if is_passed last cost then None else Some cost
lesser (Some least) last cost =
    if is_passed last cost then Some least else Some (if nat_le least cost then least else cost)

-- the least cost behind the last level; none where there is none
abbrev pub IsNextLevel : Option ℕ → List ℕ → Option ℕ → Type 0
IsNextLevel last costs None = All (λ cost. is_passed last cost ≡ true) costs
IsNextLevel last costs (Some level) =
    Contains costs level × (is_passed last level ≡ false)
    × All (λ cost. is_passed last cost ≡ false → level ≤ cost) costs

-- no times that fit cost less than the level; without a level no times fit
abbrev pub IsFloor : (Times → ℕ) → (Times → Bool) → List Times → Option ℕ → Type 0
IsFloor cost fits shifts None = All (λ times. fits times ≡ false) shifts
IsFloor cost fits shifts (Some level) = All (λ times. fits times ≡ true → level ≤ cost times) shifts

-- the first times of a cost that fit
abbrev pub first_at_level : (Times → ℕ) → (Times → Bool) → ℕ → List Times → Option Times
first_at_level cost fits level [] = None
first_at_level cost fits level (times ∷ shifts) =
    if cost times == level && fits times then Some times
    else first_at_level cost fits level shifts

-- how many costs are not behind the levels that were looked at
abbrev pub levels_left : List ℕ → Option ℕ → ℕ
levels_left costs None = 0
levels_left costs (Some level) = count_by (λ cost. nat_le level cost) costs
