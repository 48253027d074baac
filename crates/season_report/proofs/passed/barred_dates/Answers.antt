use Rattle.std.proofs.Common.{ap}
use Rattle.capacity_windows.specs.Windows.{Capacity}
use Rattle.season_report.proofs.passed.barred_dates.Goals as goal

pub count_barred-requires-clause-season : goal.count_barred-requires-clause-season
count_barred-requires-clause-season c = ap (λ (w : Capacity). w.season) c.requires.windows

pub returns-in-At : goal.returns-in-At
returns-in-At c = rw c.in-At.is (rw c.requires.windows at c.count_barred.ensures)
