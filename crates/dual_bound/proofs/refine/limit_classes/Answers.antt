use Rattle.std.proofs.Common.{◌≡◌, ℕ, ◌<◌, ◌∙◌, sym, length, arith}
use Rattle.std.specs.Prelude.{slice_index}
use Rattle.std.proofs.lemmas.Result.{IfOk-weaker}
use Rattle.choice_problem.specs.Problems.{limit_of, resource_count}
use Rattle.dual_bound.proofs.refine.limit_classes.Goals as goal

pub returns-clause-limits : goal.returns-clause-limits
returns-clause-limits c =
    let p = c.args.problem.now in
    let limits = c.loop-resource.limits.items in
    let all : c.loop-resource.resource ≡ resource_count p = omega (arith, c.loop-resource-test.false, c.loop-resource.auto.resource-end, c.resources-resource-end.ensures.count) in
    let each : (r : ℕ) → r < resource_count p → slice_index limits r ≡ limit_of p r = λ r l. c.loop-resource.invariant.each r (rw all l) in
    IfOk-weaker c.firsts_in.result _ _ (λ classes a. record {
      by_class = λ c. limit_of p c;
      each = λ r l.
          let there : r < length limits = rw (c.loop-resource.invariant.count, all) l in
          let h = rw c.deref.ensures.value at a in
          sym (each r l) ∙ sym (h.same r there) ∙ each (slice_index classes.items r) (omega (arith, h.low r there, l));
    }) c.firsts_in.ensures
