-- Times of the day as text.
use Rattle.std.specs.Prelude.{ℕ, ◌+◌, ◌/◌, ◌%◌, List, [], ◌∷◌, ◌++◌}

-- the last digit of a number
abbrev pub digit : ℕ → ℕ
digit n = 48 + n % 10

abbrev pub two_digits : ℕ → List ℕ
two_digits n = digit (n / 10) ∷ digit n ∷ []

-- hours and minutes of a minute of the day
abbrev pub time_text : ℕ → List ℕ
time_text minute = two_digits (minute / 60) ++ two_digits (minute % 60)
