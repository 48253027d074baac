use Rattle.series_model.proofs.StageLemmas.{start_given, step_fits, all_fits}
use Rattle.series_model.proofs.laws.feasible_fits.Goals as goal

pub returns : goal.returns
returns c = record { start = start_given; step = step_fits; all = all_fits }
