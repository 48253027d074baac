use Rattle.std.proofs.Common.{◌<◌, List, ℤ, take, length, pos, ◌≤ℤ◌, sym, ◌∙◌, subst, arith}
use Rattle.std.specs.Prelude.{All}
use Rattle.std.proofs.lemmas.Int.{ints, to_z-of_z}
use Rattle.std.proofs.lemmas.List.Elements.{All-push}
use mir.Syntax.{w64}
use mir.Val.{SFits}
use Rattle.choice_problem.specs.declared.problems.TheConstants.{HIGHEST_LIMIT}
use Rattle.cost_fixing.proofs.StepLemmas.{limits-from, take-push}
use Rattle.cost_fixing.proofs.units.limits_of.Goals as goal

pub loop-resource-init : goal.loop-resource-init
loop-resource-init c = record {
  value = c.in_ok-limits.ensures.items;
  to = λ i d l. absurd (omega (arith, rw c.in_ok-limits.ensures.items at l));
}

pub loop-resource-preserved : goal.loop-resource-preserved
loop-resource-preserved c =
    let limits = c.args.problem.now.limits in
    let below : c.loop-resource.resource < length limits = omega (arith, c.loop-resource-test.true, c.resources-resource-end.ensures.count) in
    let fits : SFits w64 c.limit.result = omega (arith, ints, c.limit.ensures.value, c.limit.ensures.small) in
    let same = to_z-of_z w64 c.limit.result fits ∙ c.limit.ensures.value in
    record {
      value = rw c.in_ok-push.ensures.items (take-push pos limits c.loop-resource.resource c.loop-resource.limits.items _ below c.loop-resource.invariant.value same);
      to = rw c.in_ok-push.ensures.items
          (All-push (λ z. z ≤ℤ HIGHEST_LIMIT) c.loop-resource.limits.items _ c.loop-resource.invariant.to (omega (arith, ints, same, c.limit.ensures.small)));
    }

pub returns-clause-limits_from : goal.returns-clause-limits_from
returns-clause-limits_from c =
    subst (λ (ls : List ℤ). All (λ z. pos 0 ≤ℤ z) ls) (sym c.loop-resource.invariant.value) (limits-from (take c.loop-resource.resource c.args.problem.now.limits))
