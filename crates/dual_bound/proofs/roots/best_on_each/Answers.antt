use Rattle.std.proofs.Common.{◌≡◌, ◌+◌, arith}
use Rattle.choice_problem.specs.Roots.{step_length}
use Rattle.dual_bound.specs.Loops.{IsAfter, AreMoved}
use Rattle.dual_bound.proofs.StepLemmas.{moved_is, IsGreatestUpTo-start}
use Rattle.dual_bound.proofs.roots.best_on_each.Goals as goal

pub loop-step-init : goal.loop-step-init
loop-step-init c =
    let p = c.args.problem.now in
    let ranges = c.args.ranges.now in
    let here = c.in_ok-here.here in
    let after : IsAfter p ranges 0 here.prices.items = record {
      prices_are = λ r l. c.in_ok-here.ensures.free r l;
      top = λ r l. omega (arith, c.in_ok-here.ensures.free r l);
    } in
    record {
      here = c.in_ok-here.ensures.point;
      after = after;
      best = rw (c.in_ok-best.ensures.0, c.in_ok-best.ensures.1) (IsGreatestUpTo-start p ranges here.prices.items here.loads.items here.bound c.in_ok-here.ensures.point after);
    }

pub loop-step-preserved : goal.loop-step-preserved
loop-step-preserved c =
    let p = c.args.problem.now in
    let ranges = c.args.ranges.now in
    let step = c.loop-step.step in
    let before = c.loop-step.here in
    let moved : AreMoved p before.prices.items before.loads.items (step_length step) c.in_ok-prices.prices.items =
    rw (c.deref.ensures.value, c.deref-in-loop-step.ensures.value, c.step_length-length.ensures) at c.in_ok-prices.ensures.moved in
    let after : IsAfter p ranges (step + 1) c.in_ok-here-2.here.prices.items =
    rw c.in_ok-here-2.ensures.same (moved_is p ranges step before.prices.items before.loads.items c.in_ok-prices.prices.items before.bound c.loop-step-test.true (c.price_vectors.ensures.steps (step + 1) (omega (arith, c.loop-step-test.true))) c.loop-step.invariant.here moved c.loop-step.invariant.after) in
    record {
      here = c.in_ok-here-2.ensures.point;
      after = after;
      best = c.in_ok-best-2.ensures.greatest p ranges step (λ numbers. numbers) c.in_ok-here-2.ensures.point after c.loop-step.invariant.best;
    }

pub returns : goal.returns
returns c =
    let all : c.loop-step.step ≡ 64 = omega (arith, c.loop-step-test.false, c.loop-step.auto.step-end) in
    rw all at c.loop-step.invariant.best
