use Rattle.std.proofs.Common.{◌≡◌, ℕ, ◌+◌, ◌<◌, List, length, slice_index, ◌∙◌, sym, refl, subst, arith, rules}
use Rattle.choice_problem.specs.Problems.{resource_count}
use Rattle.report_lines.specs.declared.least.Used.{Used}
use Rattle.report_lines.specs.Private.{AreBelow, AreUsed, least_uses}
use Rattle.report_lines.proofs.LeastLemmas.{unit_added}
use Rattle.report_lines.proofs.least.add_units.Goals as goal

pub add_used-requires-clause-there : goal.add_used-requires-clause-there
add_used-requires-clause-there c =
    let are : AreUsed (least_uses c.args.problem.now c.loop-unit.unit) (resource_count c.args.problem.now) c.deref.result.now = subst (λ (xs : List Used). AreUsed (least_uses c.args.problem.now c.loop-unit.unit) (resource_count c.args.problem.now) xs) (sym c.deref.ensures.value) c.in_ok-used.ensures.used in
    subst (λ (n : ℕ). AreBelow n c.deref.result.now) (sym c.loop-unit.invariant.loads) are.there

pub add_used-requires-clause-room : goal.add_used-requires-clause-room
add_used-requires-clause-room c = λ r lt.
    let are : AreUsed (least_uses c.args.problem.now c.loop-unit.unit) (resource_count c.args.problem.now) c.deref.result.now = subst (λ (xs : List Used). AreUsed (least_uses c.args.problem.now c.loop-unit.unit) (resource_count c.args.problem.now) xs) (sym c.deref.ensures.value) c.in_ok-used.ensures.used in
    let there : r < resource_count c.args.problem.now = omega (arith, lt, c.loop-unit.invariant.loads) in
    omega (arith, c.loop-unit.invariant.few r there, c.loop-unit-test.true, c.units-unit-end.ensures.few, are.exact r there, c.used_by_all.ensures.few r)

pub loop-unit-preserved : goal.loop-unit-preserved
loop-unit-preserved c =
    let p = c.args.problem.now in
    let u = c.loop-unit.unit in
    let are : AreUsed (least_uses p u) (resource_count p) c.deref.result.now = subst (λ (xs : List Used). AreUsed (least_uses p u) (resource_count p) xs) (sym c.deref.ensures.value) c.in_ok-used.ensures.used in
    let long : length c.add_used.new.loads ≡ length c.loop-unit.loads = search rules in
    let grown : (r : ℕ) → r < resource_count p → slice_index c.add_used.new.loads r ≡ slice_index c.loop-unit.loads r + least_uses p u r = (λ r there. omega (arith, c.add_used.ensures r (omega (arith, there, c.loop-unit.invariant.loads)), are.exact r there)) in
    record {
      zeros = c.in_ok-used.ensures.zeros;
      counts = c.in_ok-used.ensures.count ∙ c.loop-unit.invariant.counts;
      loads = long ∙ c.loop-unit.invariant.loads;
      sums = λ r there. unit_added p u r (slice_index c.loop-unit.loads r) (slice_index c.add_used.new.loads r) (least_uses p u r) (omega (arith, c.loop-unit-test.true, c.units-unit-end.ensures.count)) (c.loop-unit.invariant.sums r there) refl (grown r there);
      few = λ r there. omega (arith, grown r there, c.loop-unit.invariant.few r there, c.used_by_all.ensures.few r);
    }
