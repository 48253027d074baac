use Rattle.std.proofs.Common.{arith}
use Rattle.series_model.specs.Movements.{movement_after}
use Rattle.season_report.specs.Reasons.{is_held_by}
use Rattle.season_report.specs.Private.{resources_above}
use Rattle.season_report.proofs.MovementLemmas.{minute_unlisted, minute_listed}
use Rattle.season_report.proofs.passed.is_barred_minute.Goals as goal

pub returns-then-movement-days : goal.returns-then-movement-days
returns-then-movement-days c =
    minute_unlisted (is_held_by c.args.windows.now (resources_above c.args.counts.now c.args.limits.now)) c.args.windows.now.season (movement_after c.args.kind c.args.date c.args.minute) (omega arith)

pub returns : goal.returns
returns c =
    minute_listed (is_held_by c.args.windows.now (resources_above c.args.counts.now c.args.limits.now)) c.args.windows.now.season (movement_after c.args.kind c.args.date c.args.minute) c.is_barred_movement.result (omega arith) c.is_barred_movement.ensures
