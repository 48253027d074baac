use Rattle.std.proofs.Common.{rules, ◌<◌, ◌≤◌, length, get_or, refl, sym, ◌∙◌, arith}
use Rattle.kept_bounds.proofs.ChangeLemmas.{agree-next, agree-all}
use Rattle.kept_bounds.proofs.totals.follow.Goals as goal

pub loop-unit-preserved : goal.loop-unit-preserved
loop-unit-preserved c =
    let units = c.args.units.now in
    let i = c.loop-unit.unit-index in
    let lt : i < length units = search rules in
    let old = c.loop-unit.totals.ranges in
    let unit = get_or units i 0 in
    let named = c.requires.units i 0 lt in
    record {
      totals = c.follow_unit.ensures.totals;
      scale = c.follow_unit.ensures.scale ∙ c.loop-unit.invariant.scale;
      others = agree-next old c.follow_unit.new.totals.ranges c.args.ranges.now units i unit 0 lt refl
          (omega (arith, named, c.loop-unit.invariant.totals.ranges.length)) c.follow_unit.ensures.ranges c.loop-unit.invariant.others;
    }

pub returns-clause-ranges : goal.returns-clause-ranges
returns-clause-ranges c =
    let past : length c.args.units.now ≤ c.loop-unit.unit-index = search rules in
    agree-all c.loop-unit.totals.ranges c.args.ranges.now c.args.units.now c.loop-unit.unit-index past
    (c.loop-unit.invariant.totals.ranges.length ∙ sym c.requires.ranges.length) c.loop-unit.invariant.others
