-- Days of operation as text: sets of weekdays, of which bit 0 is Monday.
use Rattle.std.specs.Prelude.{◌≡◌, ◌⊎◌, ℕ, ◌+◌, ◌<◌, ◌≤◌, List, [], ◌∷◌, ◌++◌, length, if◌then◌else◌}
use Rattle.season_days.specs.Seasons.{has_weekday}

-- seven places: the digit of a weekday that is in the set, and 0 for one that is not
abbrev pub place_of_day : ℕ → ℕ → ℕ
place_of_day days weekday = if has_weekday days weekday then 48 + weekday else 48

abbrev pub days_text : ℕ → List ℕ
days_text days =
    place_of_day days 1 ∷ place_of_day days 2 ∷ place_of_day days 3 ∷ place_of_day days 4
    ∷ place_of_day days 5 ∷ place_of_day days 6 ∷ place_of_day days 7 ∷ []

-- the digits of the weekdays that are in the set, rising
abbrev pub rising_digit : ℕ → ℕ → List ℕ
rising_digit days weekday = if has_weekday days weekday then (48 + weekday) ∷ [] else []

abbrev pub rising_text : ℕ → List ℕ
rising_text days =
    rising_digit days 1 ++ (rising_digit days 2
    ++ (rising_digit days 3
    ++ (rising_digit days 4
    ++ (rising_digit days 5 ++ (rising_digit days 6 ++ rising_digit days 7)))))

-- both spellings of a set of weekdays count: seven places, or one to six rising digits
pub record IsDays (text : List ℕ) (days : ℕ) : Type 0 where
  pub week : days < 128
  pub spelled : (text ≡ days_text days)
      ⊎ ((text ≡ rising_text days) × (1 ≤ length text) × (length text ≤ 6))
