use Rattle.std.proofs.Common.{arith}
use Rattle.series_model.proofs.BoundLemmas.{options_some, options_good, options_cheap}
use Rattle.series_model.proofs.FewLemmas.{options_few}
use Rattle.series_model.proofs.laws.option_bounds.Goals as goal

pub returns : goal.returns
returns c = record { some = λ d unit fits. let one = options_some d unit fits in omega (arith, one); few = options_few; times = options_good; costs = options_cheap c.lengths.ensures.bounds }
