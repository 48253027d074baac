use Rattle.season_report.proofs.TriedLemmas.{texts_pushed}
use Rattle.season_report.proofs.report.no_texts.Goals as goal

pub loop-unit-preserved : goal.loop-unit-preserved
loop-unit-preserved c =
    texts_pushed c.loop-unit.texts.items c.push.new.self.items c.new.result c.args.units.now c.loop-unit._unit-index c.loop-unit-test.true c.in_ok-push.ensures.items c.new.ensures.items c.loop-unit.invariant
