-- The dates of the season.
use Rattle.std.proofs.Common.{◌≡◌, ◌≢◌, ℕ, suc, Bool, true, List, [], ◌∷◌, codes, refl, sym, ap, ◌∙◌, arith, ℤ, pos, ◌-ℤ◌}
use Rattle.std.proofs.lemmas.Int.{ints}
use Rattle.std.specs.List.{filter}
use Rattle.jiff_core.specs.Calendar.{days_of_years, days_of_months, day_count, days_from_civil, weekday_number}
use Rattle.season_days.specs.Dates.{last_sunday}
use Rattle.season_days.specs.Seasons.{date_count, date_at, days_from, weekday_on, is_on, dates_of}
use Rattle.scr_reader.specs.Printed.{dates_text}
use Rattle.season_maker.specs.Generated.{summer_2025, whole_season}

last_march : last_sunday (pos 2025) 3 ≡ 30
unfolding weekday_number days_from_civil day_count days_of_years days_of_months
last_march = refl

last_october : last_sunday (pos 2025) 10 ≡ 26
unfolding weekday_number days_from_civil day_count days_of_years days_of_months
last_october = refl

pub first_date : date_at summer_2025 0 ≡ record { year = 2025; month = 3; of_month = 30 }
unfolding date_at
first_date = rw last_march refl

pub last_date : date_at summer_2025 209 ≡ record { year = 2025; month = 10; of_month = 25 }
unfolding date_at weekday_number days_from_civil day_count days_of_years days_of_months
last_date = refl

between : (a b : ℤ) → days_from_civil (pos 2025) 10 26 -ℤ days_from_civil (pos 2025) 3 30 ≡ pos 210
unfolding days_from_civil day_count days_of_months
between a b = omega (arith, ints)

pub days : date_count summer_2025 ≡ 210
unfolding date_count
days = rw (last_march, last_october, between (pos 0) (pos 0)) refl

pub dates : dates_text summer_2025 whole_season ≡ codes "30MAR25OCT"
dates = rw (first_date, last_date) refl

first_on : is_on summer_2025 127 0 ≡ true
unfolding is_on weekday_on weekday_number days_from_civil day_count days_of_years days_of_months
first_on = refl

more_days : (first count : ℕ) → days_from first (suc count) ≡ first ∷ days_from (suc first) count
unfolding days_from
more_days first count = refl

kept : (test : ℕ → Bool) (day : ℕ) (others : List ℕ) → test day ≡ true → filter test (day ∷ others) ≢ []
kept test day others on e = let f : day ∷ filter test others ≡ [] = rw on at e in cc

pub some_date : dates_of summer_2025 whole_season ≢ []
some_date e =
    kept (is_on summer_2025 127) 0 (days_from 1 209) first_on
    (ap (filter (is_on summer_2025 127)) (sym (more_days 0 209)) ∙ e)
