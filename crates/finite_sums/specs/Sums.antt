-- Sums, counts and least values over a run of numbers.
use Rattle.std.specs.Prelude.{ℕ, ◌+◌, ◌-◌, ◌<◌, ◌≤◌, min, nat_lt, Bool, if◌then◌else◌}
use Rattle.std.proofs.Common.{zero, suc}

-- f 0 + f 1 + .. + f (n - 1)
abbrev pub sum_below : ℕ → (ℕ → ℕ) → ℕ
sum_below zero f = 0
sum_below (suc n) f = sum_below n f + f n

-- how many of 0, 1, .., n - 1 pass the test
abbrev pub count_below : ℕ → (ℕ → Bool) → ℕ
count_below n passes = sum_below n (λ i. if passes i then 1 else 0)

-- the least of f low, f (low + 1), .., f (low + n)
abbrev pub least_from : ℕ → ℕ → (ℕ → ℕ) → ℕ
least_from low zero f = f low
least_from low (suc n) f = min (least_from low n f) (f (low + suc n))

-- the least of f low, .., f high
abbrev pub least_within : ℕ → ℕ → (ℕ → ℕ) → ℕ
least_within low high f = least_from low (high - low) f

-- the first of low, .., low + n at which f is least
abbrev pub first_least_from : ℕ → ℕ → (ℕ → ℕ) → ℕ
first_least_from low zero f = low
first_least_from low (suc n) f = if nat_lt (f (low + suc n)) (f (first_least_from low n f)) then low + suc n else first_least_from low n f

-- the first of low, .., high at which f is least
abbrev pub first_least : ℕ → ℕ → (ℕ → ℕ) → ℕ
first_least low high f = first_least_from low (high - low) f

-- the same as a relation
pub record IsFirstLeast (low high : ℕ) (f : ℕ → ℕ) (a : ℕ) : Type 0 where
  pub from : low ≤ a
  pub to : a ≤ high
  pub least : (b : ℕ) → low ≤ b → b ≤ high → f a ≤ f b
  pub first : (b : ℕ) → low ≤ b → b < a → f a < f b
