use Rattle.usage_watch.specs.Precedence.{has_precedence}
use Rattle.usage_watch.proofs.WeekdayLemmas.{kept_day}
use Rattle.usage_watch.proofs.laws.kept_weekdays.Goals as goal

pub returns : goal.returns
returns c = λ season reports line weekday some few. kept_day (has_precedence season reports line) weekday some few
