use Rattle.season_days.proofs.CivilLemmas.{named_at, day_named}
use Rattle.season_days.proofs.laws.named_days.Goals as goal

pub returns : goal.returns
returns c = λ season month of_month day small.
    (λ is. (is.2, (named_at season month of_month day small is).0, (named_at season month of_month day small is).1), λ is. day_named season month of_month day small is.0 is.1 is.2)
