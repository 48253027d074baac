use Rattle.std.proofs.Common.{arith}
use Rattle.season_maker.proofs.TextLemmas.{unit_step, all_put}
use Rattle.season_maker.proofs.make.requests_file.Goals as goal

pub loop-unit-preserved : goal.loop-unit-preserved
loop-unit-preserved c = record {
  text = unit_step c.args.number c.loop-unit.unit c.args.units c.loop-unit.text.items c.put_unit.new.text.items _ c.loop-unit-test.true (c.in_ok-put_unit.ensures.text c.args.number c.loop-unit.invariant.state) c.loop-unit.invariant.text;
  state = c.put_unit.ensures.state c.args.number c.loop-unit.invariant.state;
}

pub returns : goal.returns
returns c = all_put c.args.number c.loop-unit.unit c.args.units c.loop-unit.text.items _ (omega arith) c.loop-unit.invariant.text
