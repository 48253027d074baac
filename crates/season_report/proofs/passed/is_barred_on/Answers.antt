use Rattle.season_report.specs.Reasons.{is_held_by}
use Rattle.season_report.specs.Private.{resources_above}
use Rattle.season_report.proofs.MovementLemmas.{one_of_both, other_of_both}
use Rattle.season_report.proofs.passed.is_barred_on.Goals as goal

pub returns-then-is_barred_stop : goal.returns-then-is_barred_stop
returns-then-is_barred_stop c = one_of_both (is_held_by c.args.windows.now (resources_above c.args.counts.now c.args.limits.now)) _ _ c.if-is_barred_stop.ensures

pub returns : goal.returns
returns c = other_of_both (is_held_by c.args.windows.now (resources_above c.args.counts.now c.args.limits.now)) _ _ c.is_barred_stop-2.result c.if-is_barred_stop.ensures c.is_barred_stop-2.ensures
