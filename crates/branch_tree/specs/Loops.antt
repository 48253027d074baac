-- Forms of loops: contracts of private functions alone cite them.
use Rattle.std.specs.Prelude.{◌≡◌, ℕ, ◌+◌, ◌<◌, Bool, true, nat_lt, ◌==◌, ◌&&◌, ◌||◌, Option, Some, None}
use Rattle.choice_problem.specs.Problems.{ProblemView, alt_count, alt_cost}
use Rattle.finite_sums.specs.Sums.{count_below}

-- alternative a comes before alternative b: it costs less, or as much and has the lower number
abbrev pub precedes : ProblemView → ℕ → ℕ → ℕ → Bool
precedes p u a b =
    nat_lt (alt_cost p u a) (alt_cost p u b) || (alt_cost p u a == alt_cost p u b && nat_lt a b)

-- alternative b comes after the last one, if there is a last one
abbrev pub follows : ProblemView → ℕ → Option ℕ → ℕ → Bool
follows p u None b = true
follows p u (Some a) b = precedes p u a b

-- alternative a comes before the next one, if there is a next one
abbrev pub leads : ProblemView → ℕ → ℕ → Option ℕ → Bool
leads p u a None = true
leads p u a (Some b) = precedes p u a b

-- of the alternatives below n that come after the last one, the one that comes first
pub record IsFirstBelow (p : ProblemView) (u : ℕ) (last : Option ℕ) (n a : ℕ) : Type 0 where
  pub there : a < n
  pub later : follows p u last a ≡ true
  pub first : (b : ℕ) → b < n → follows p u last b ≡ true → (b ≡ a → ⊥) → precedes p u a b ≡ true

abbrev pub IsNextBelow : ProblemView → ℕ → Option ℕ → ℕ → Option ℕ → Type 0
IsNextBelow p u last n None = (b : ℕ) → b < n → follows p u last b ≡ true → ⊥
IsNextBelow p u last n (Some a) = IsFirstBelow p u last n a

-- the alternatives that pass the test are the next one or come after it
abbrev pub AreFrom : ProblemView → ℕ → Option ℕ → ℕ → Type 0
AreFrom p u None b = ⊥
AreFrom p u (Some a) b = (b ≡ a → ⊥) → precedes p u a b ≡ true

-- how many alternatives are still to be tried
abbrev pub still_to_try : ProblemView → ℕ → Option ℕ → ℕ
still_to_try p u None = 0
still_to_try p u (Some a) = count_below (alt_count p u) (λ b. precedes p u a b) + 1
