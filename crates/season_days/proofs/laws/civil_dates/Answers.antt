use Rattle.std.proofs.Common.{ℕ, pos, sym, subst, ap, ◌∙◌, ◌≡◌, ◌+◌, arith, Some}
use Rattle.season_days.specs.Dates.{IsLastSunday}
use Rattle.season_days.specs.Seasons.{first_year, year_after, month_after, date_at, date_count}
use Rattle.season_days.proofs.SeasonLemmas.{is_last_sunday}
use Rattle.season_days.proofs.CivilLemmas.{is_at, date_after_is}
use Rattle.season_days.proofs.PeriodLemmas.{slice_get-map_days, length-map_days}
use Rattle.season_days.proofs.laws.civil_dates.Goals as goal

pub returns-clause-count : goal.returns-clause-count
returns-clause-count c = λ season. length-map_days (date_at season) 0 (date_count season)

pub returns-clause-listed : goal.returns-clause-listed
returns-clause-listed c = λ season day lt.
    let same : 0 + day ≡ day = omega arith in
    slice_get-map_days (date_at season) 0 (date_count season) day lt ∙ ap (λ (d : ℕ). Some (date_at season d)) same

pub returns-clause-numbers : goal.returns-clause-numbers
returns-clause-numbers c = λ season day. (is_at season day).0.number_is

pub returns-clause-year_after : goal.returns-clause-year_after
returns-clause-year_after c = λ season small. (date_after_is season small).0

pub returns-clause-month_after : goal.returns-clause-month_after
returns-clause-month_after c = λ season small. (date_after_is season small).1

pub returns-clause-sunday_after : goal.returns-clause-sunday_after
returns-clause-sunday_after c = λ season small.
    subst (λ (d : ℕ). IsLastSunday (pos (year_after season.half (first_year season))) (month_after season.half) d) (sym (date_after_is season small).2)
    (is_last_sunday (pos (year_after season.half (first_year season))) (month_after season.half))
