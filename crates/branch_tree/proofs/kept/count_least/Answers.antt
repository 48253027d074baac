use Rattle.std.proofs.Common.{◌<◌, ◌∙◌, length, refl, arith}
use Rattle.std.specs.Prelude.{slice_index}
use Rattle.choice_problem.specs.Splits.{least_uses}
use Rattle.finite_sums.proofs.SumLemmas.{sum_below-more}
use Rattle.branch_tree.proofs.WalkLemmas.{lists-pushed}
use Rattle.branch_tree.proofs.kept.count_least.Goals as goal

pub loop-unit-init : goal.loop-unit-init
loop-unit-init c =
    rw c.new-lists.ensures.items (record {
      counted = λ i l. c.requires.empty i (omega (arith, l, c.requires.count));
      few = λ i l. omega (arith, c.requires.empty i (omega (arith, l, c.requires.count)));
      lists_are = record {
        count = refl;
        each = λ u i m. absurd (omega (arith, m));
        within = λ u m. absurd (omega (arith, m));
      };
      same = refl;
    })

pub add_list-requires-clause-within : goal.add_list-requires-clause-within
add_list-requires-clause-within c = rw c.deref.ensures.value (λ r h. omega (arith, c.in_ok-list.ensures.within r h))

pub add_list-requires-clause-room : goal.add_list-requires-clause-room
add_list-requires-clause-room c = rw c.deref.ensures.value (λ i l.
    let there : i < length c.args.listed.now = omega arith in
    omega (arith, c.loop-unit.invariant.few i there, c.in_ok-list.ensures.least i there, c.in_ok-list.ensures.few (slice_index c.args.listed.now i), c.units-unit-end.ensures.few, c.loop-unit-test.true))

pub loop-unit-preserved : goal.loop-unit-preserved
loop-unit-preserved c =
    let p = c.args.problem.now in
    let grown = rw c.deref.ensures.value at c.add_list.ensures in
    let listed = rw (c.low.ensures, c.high.ensures) at c.in_ok-list.ensures.least in
    let few = rw (c.low.ensures, c.high.ensures) at c.in_ok-list.ensures.few in
    record {
      counted = λ i l. omega (
        arith,
        sum_below-more c.loop-unit.unit (λ u. least_uses p c.args.ranges.now u (slice_index c.args.listed.now i)),
        c.loop-unit.invariant.counted i l,
        grown i (omega arith),
        listed i l,
      );
      few = λ i l. omega (arith, c.loop-unit.invariant.few i l, grown i (omega arith), listed i l, few (slice_index c.args.listed.now i));
      lists_are = rw (c.in_ok-push.ensures.items, c.of.ensures) (lists-pushed p c.args.ranges.now c.args.listed.now c.loop-unit.unit c.loop-unit.lists.items
          c.in_ok-list.list.items c.loop-unit.invariant.lists_are listed c.in_ok-list.ensures.within);
      same = c.in_ok-list.ensures.same ∙ c.loop-unit.invariant.same;
    }
