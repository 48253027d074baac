use Rattle.std.proofs.Common.{refl, rules, drop}
use Rattle.std.proofs.lemmas.List.Elements.{All-get_or}
use Rattle.season_report.specs.Private.{IsTold, texts_of}
use Rattle.season_report.proofs.UnitLemmas.{units_next, units_end}
use Rattle.season_report.proofs.units.put_units.Goals as goal

pub loop-i-init : goal.loop-i-init
loop-i-init c = refl

pub put_unit-requires : goal.put_unit-requires
put_unit-requires c = All-get_or (IsTold c.args.declaration.now) c.args.units.now c.loop-i.i _ (search rules) c.requires.told

pub loop-i-preserved : goal.loop-i-preserved
loop-i-preserved c =
    units_next c.args.declaration.now c.args.units.now c.args.reasons.now c.loop-i.i _ c.index-reasons-i.result c.deref.result.now c.loop-i.out.items c.put_unit.new.out.items _ (search rules) c.requires.count c.index-reasons-i.is c.deref.ensures.value c.in_ok-put_unit.ensures c.loop-i.invariant

pub returns : goal.returns
returns c = units_end c.args.declaration.now c.args.units.now (drop c.loop-i.i (texts_of c.args.reasons.now)) c.loop-i.i c.loop-i.out.items _ (search rules) c.loop-i.invariant
