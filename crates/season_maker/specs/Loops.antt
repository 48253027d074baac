-- The state of the generator between two units. Private contracts alone cite this.
use Rattle.std.specs.Prelude.{◌≡◌, ℕ, ◌-◌, ◌%◌, ◌==◌, if◌then◌else◌}
use Rattle.season_maker.specs.Draws.{state_after}

-- how many draws the units before this one have made
abbrev pub draws_before : ℕ → ℕ
draws_before unit = if unit % 4 == 0 then unit else unit - 1

abbrev pub IsBefore : ℕ → ℕ → ℕ → Type 0
IsBefore number unit state = state ≡ state_after number (draws_before unit)
