use Rattle.std.proofs.Common.{rules, ◌<◌, ◌≤◌, length, get_or, refl, arith}
use Rattle.cert_checker.proofs.LoadLemmas.{mixed-part, mixed-next, mixed-end}
use Rattle.cert_checker.proofs.loads.load_now.Goals as goal

pub exchanged-now-requires-clause-part : goal.exchanged-now-requires-clause-part
exchanged-now-requires-clause-part c =
    let units = c.args.changed.now in
    let i = c.loop-unit.unit-index in
    let lt : i < length units = search rules in
    mixed-part c.args.problem.now c.args.whole.now c.args.ranges.now c.args.resource i units (get_or units i 0) 0 c.loop-unit.now lt refl (c.requires.there i 0 lt) c.loop-unit.invariant.mixed

pub loop-unit-preserved : goal.loop-unit-preserved
loop-unit-preserved c =
    let units = c.args.changed.now in
    let i = c.loop-unit.unit-index in
    let lt : i < length units = search rules in
    record {
      mixed = mixed-next c.agreeing_ranges.ensures.next c.args.problem.now c.args.whole.now c.args.ranges.now c.args.resource i units (get_or units i 0) 0 c.loop-unit.now c.exchanged-now.result lt refl (c.requires.there i 0 lt)
          c.requires.once c.exchanged-now.ensures.load c.loop-unit.invariant.mixed;
      small = omega (arith, c.exchanged-now.ensures.small, c.loop-unit.invariant.small);
    }

pub returns-clause-load : goal.returns-clause-load
returns-clause-load c =
    let units = c.args.changed.now in
    let past : length units ≤ c.loop-unit.unit-index = search rules in
    mixed-end c.agreeing_ranges.ensures.all c.args.problem.now c.args.whole.now c.args.ranges.now c.args.resource c.loop-unit.unit-index units c.loop-unit.now past c.requires.ranges.length c.loop-unit.invariant.mixed
