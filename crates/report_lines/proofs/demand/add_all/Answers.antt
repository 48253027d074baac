use Rattle.std.proofs.Common.{◌≡◌, ◌<◌, ◌≤◌, List, length, slice_index, ◌∙◌, ap, arith, rules}
use Rattle.std.proofs.lemmas.List.{take_all}
use Rattle.series_model.specs.declared.unit.Unit.{Unit as SlotUnit}
use Rattle.report_lines.specs.Private.{lines_load}
use Rattle.report_lines.proofs.DemandLemmas.{line_more}
use Rattle.report_lines.proofs.demand.add_all.Goals as goal

pub add_requested-requires-clause-room : goal.add_requested-requires-clause-room
add_requested-requires-clause-room c = λ r lt.
    let there : r < length c.args.loads.now = omega (arith, lt, c.loop-unit.invariant.count) in
    omega (arith, c.loop-unit.invariant.few r there, c.loop-unit-test.true, c.requires.few)

pub loop-unit-preserved : goal.loop-unit-preserved
loop-unit-preserved c =
    let i = c.loop-unit.unit-index in
    let units = c.args.units.now in
    let lt : i < length units = search rules in
    let long : length c.add_requested.new.loads ≡ length c.loop-unit.loads = search rules in
    record {
      count = long ∙ c.loop-unit.invariant.count;
      sums = λ r there.
          let here : r < length c.loop-unit.loads = omega (arith, there, c.loop-unit.invariant.count) in
          line_more c.args.windows.now units i _ (slice_index c.loop-unit.loads r) (slice_index c.add_requested.new.loads r) r lt (c.loop-unit.invariant.sums r there) (c.in_ok-add_requested.ensures.added r here);
      few = λ r there.
          let here : r < length c.loop-unit.loads = omega (arith, there, c.loop-unit.invariant.count) in
          omega (arith, c.in_ok-add_requested.ensures.added r here, c.in_ok-add_requested.ensures.few r, c.loop-unit.invariant.few r there);
    }

pub returns : goal.returns
returns c = λ r lt.
    let units = c.args.units.now in
    let past : length units ≤ c.loop-unit.unit-index = search rules in
    c.loop-unit.invariant.sums r (omega (arith, lt, c.requires.count)) ∙ ap (λ (us : List SlotUnit). lines_load c.args.windows.now us r) (take_all c.loop-unit.unit-index units past)
