-- The numbers that are drawn for a season: a linear congruential generator modulo the prime 65537.
use Rattle.std.specs.Prelude.{ℕ, zero, suc, ◌+◌, ◌*◌, ◌%◌}

-- the state that follows a state
abbrev pub next_state : ℕ → ℕ
next_state state = (75 * state + 74) % 65537

-- the state after so many draws; the season's number gives the first one
unfoldable pub state_after : ℕ → ℕ → ℕ
state_after number zero = number % 65537
state_after number (suc draws) = next_state (state_after number draws)

-- what the draw of this place, counted from 1, gives: a number below a bound
abbrev pub drawn : ℕ → ℕ → ℕ → ℕ
drawn number draw bound = state_after number draw % bound
