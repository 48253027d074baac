use Rattle.std.proofs.Common.{rules, ◌<◌, ◌≤◌, length, get_or, refl, sym, ◌∙◌, arith}
use Rattle.cert_checker.proofs.kept_loads.follow.Goals as goal

pub loop-unit-preserved : goal.loop-unit-preserved
loop-unit-preserved c =
    let units = c.args.units.now in
    let i = c.loop-unit.unit-index in
    let lt : i < length units = search rules in
    let old = c.loop-unit.kept.ranges in
    let unit = get_or units i 0 in
    let named = c.requires.units i 0 lt in
    record {
      is_kept = c.follow_unit.ensures.kept;
      same = c.follow_unit.ensures.resource ∙ c.loop-unit.invariant.same;
      others = c.agreeing_ranges.ensures.next old c.follow_unit.new.kept.ranges c.args.ranges.now units i unit 0 lt refl
          (omega (arith, named, c.loop-unit.invariant.is_kept.valid.length)) c.follow_unit.ensures.ranges c.loop-unit.invariant.others;
    }

pub returns-clause-ranges : goal.returns-clause-ranges
returns-clause-ranges c =
    let past : length c.args.units.now ≤ c.loop-unit.unit-index = search rules in
    c.agreeing_ranges.ensures.all c.loop-unit.kept.ranges c.args.ranges.now c.args.units.now c.loop-unit.unit-index past
    (c.loop-unit.invariant.is_kept.valid.length ∙ sym c.requires.ranges.length) c.loop-unit.invariant.others
