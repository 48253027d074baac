use Rattle.std.proofs.Common.{ℕ, sym, subst}
use Rattle.season_days.specs.Dates.{IsLastSunday}
use Rattle.season_days.proofs.SeasonLemmas.{last_sunday_is, is_last_sunday}
use Rattle.season_days.proofs.laws.last_sundays.Goals as goal

pub returns : goal.returns
returns c = λ year month of_month. (last_sunday_is year month of_month, λ e. subst (λ (d : ℕ). IsLastSunday year month d) (sym e) (is_last_sunday year month))
