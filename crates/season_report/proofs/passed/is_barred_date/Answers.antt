use Rattle.season_report.proofs.MovementLemmas.{not_on, also_on}
use Rattle.season_report.proofs.passed.is_barred_date.Goals as goal

pub returns-then-not-is_on : goal.returns-then-not-is_on
returns-then-not-is_on c = not_on _ _ c.if-not-is_on.ensures

pub returns : goal.returns
returns c = also_on _ _ _ c.if-not-is_on.ensures c.is_barred_on.ensures
