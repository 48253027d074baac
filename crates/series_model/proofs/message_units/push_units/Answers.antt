use Rattle.series_model.specs.Units.{placed_unit}
use Rattle.series_model.proofs.UnitLemmas.{pushed_more}
use Rattle.series_model.proofs.message_units.push_units.Goals as goal

pub loop-placed-preserved : goal.loop-placed-preserved
loop-placed-preserved c =
    pushed_more placed_unit c.args.items.now c.loop-placed.placed-index _ c.args.units.now.items c.loop-placed.units.items c.push_unit.new.units.items c.loop-placed-test.true c.in_ok-push_unit.ensures c.loop-placed.invariant
