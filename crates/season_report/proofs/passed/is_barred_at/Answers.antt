use Rattle.season_report.proofs.MovementLemmas.{not_on, also_on}
use Rattle.season_report.proofs.passed.is_barred_at.Goals as goal

pub returns-then-not-is_held : goal.returns-then-not-is_held
returns-then-not-is_held c = not_on _ _ c.if-not-is_held.ensures

pub returns : goal.returns
returns c = also_on _ _ _ c.if-not-is_held.ensures c.is_above.ensures
