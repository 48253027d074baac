use Rattle.usage_watch.proofs.NextLemmas.{all_historic}
use Rattle.usage_watch.proofs.laws.next_lines_fit.Goals as goal

pub returns : goal.returns
returns c = λ season next reports held fit. all_historic c.period_dates.ensures.members c.lengths.ensures.bounds season next reports held fit
