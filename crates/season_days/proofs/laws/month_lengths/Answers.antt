use Rattle.jiff_core.proofs.CalendarLemmas.{days_in_month_bounds}
use Rattle.season_days.proofs.laws.month_lengths.Goals as goal

pub returns : goal.returns
returns c = λ year month. let bounds = days_in_month_bounds year month in (bounds.1, bounds.0)
