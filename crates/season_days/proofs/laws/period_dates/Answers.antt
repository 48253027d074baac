use Rattle.std.proofs.Common.{arith, ◌+◌, ◌-◌}
use Rattle.std.proofs.lemmas.List.Elements.{filter_agree}
use Rattle.season_days.specs.Seasons.{is_on, days_from}
use Rattle.season_days.proofs.SeasonLemmas.{is_on-seasons}
use Rattle.season_days.proofs.PeriodLemmas.{kept_in, in_kept, rising_kept}
use Rattle.season_days.proofs.laws.period_dates.Goals as goal

pub returns-clause-members : goal.returns-clause-members
returns-clause-members c = λ season period day. (
  λ has. let is = in_kept (is_on season period.days) period.first.0 (period.last.0 + 1 - period.first.0) day has in (is.0, omega (arith, is.0, is.1), is.2),
  λ is. kept_in (is_on season period.days) period.first.0 (period.last.0 + 1 - period.first.0) day is.0 (omega (arith, is.0, is.1)) is.2,
)

pub returns-clause-rising : goal.returns-clause-rising
returns-clause-rising c = λ season period. rising_kept (is_on season period.days) period.first.0 (period.last.0 + 1 - period.first.0)

pub returns-clause-seasons : goal.returns-clause-seasons
returns-clause-seasons c = λ season other period.
    filter_agree (is_on season period.days) (is_on other period.days) (λ day. is_on-seasons season other period.days day) (days_from period.first.0 (period.last.0 + 1 - period.first.0))
