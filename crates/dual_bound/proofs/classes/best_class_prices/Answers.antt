use Rattle.std.proofs.Common.{◌≡◌, ℕ, ◌+◌, ◌<◌, arith, List, replicate}
use Rattle.std.specs.Prelude.{slice_index}
use Rattle.std.proofs.lemmas.List.{get_or-replicate, length-replicate}
use Rattle.choice_problem.specs.Problems.{ProblemView, resource_count}
use Rattle.choice_problem.specs.Roots.{step_length}
use Rattle.price_table.specs.Strips.{ArePrices}
use Rattle.dual_bound.specs.Loops.{IsPoint, IsAfter, AreMoved}
use Rattle.dual_bound.specs.Classes.{AreGrouped, by_classes}
use Rattle.dual_bound.proofs.StepLemmas.{moved_is, IsGreatestUpTo-start}
use Rattle.dual_bound.proofs.ClassLemmas.{IsAfter-free, AreMoved-by}
use Rattle.dual_bound.proofs.classes.best_class_prices.Goals as goal

pub loop-step-init : goal.loop-step-init
loop-step-init c =
    let k = c.args.grouped.now in
    let sizes = c.args.sizes.now in
    let ranges = c.args.ranges.now in
    let here = c.in-Some.here in
    let start = c.in_ok-zeros.zeros.items in
    let same : here.prices.items ≡ start = rw c.in-Some.is at c.in_ok-here.ensures.same in
    let zeros : start ≡ replicate (resource_count k) 0 = rw c.resources.ensures.count at (c.in_ok-zeros.ensures.items_if_clones_equal (λ y e. e)) in
    let free : (class : ℕ) → class < resource_count k → slice_index here.prices.items class ≡ 0 = λ class l. rw (same, zeros) (get_or-replicate (resource_count k) class 0 0 l) in
    let prices : ArePrices k here.prices.items = record {
      count = rw (same, zeros) (length-replicate (resource_count k) 0);
      small = λ class l. omega (arith, free class l);
    } in
    let point : (p : ProblemView) (classes : List ℕ) → AreGrouped p k classes sizes → IsPoint p ranges 1024 (by_classes classes here.prices.items) (by_classes classes here.loads.items) here.bound =
    rw c.in-Some.is at c.in_ok-here.ensures.point in
    record {
      prices = prices;
      loads = rw c.in-Some.is at c.in_ok-here.ensures.loads;
      best_prices = rw c.in_ok-best.ensures.0 prices;
      here = point;
      after = λ p classes h. IsAfter-free p k classes sizes h ranges here.prices.items free;
      best = λ p classes h. rw (c.in_ok-best.ensures.0, c.in_ok-best.ensures.1)
          (IsGreatestUpTo-start p ranges (by_classes classes here.prices.items) (by_classes classes here.loads.items) here.bound (point p classes h)
          (IsAfter-free p k classes sizes h ranges here.prices.items free));
    }

pub loop-step-preserved : goal.loop-step-preserved
loop-step-preserved c =
    let k = c.args.grouped.now in
    let sizes = c.args.sizes.now in
    let ranges = c.args.ranges.now in
    let step = c.loop-step.step in
    let before = c.loop-step.here in
    let here = c.in-Some-2.point in
    let moved = c.in_ok-prices.prices.items in
    let same : here.prices.items ≡ moved = rw c.in-Some-2.is at c.in_ok-point.ensures.same in
    let prices : ArePrices k here.prices.items = rw same c.in_ok-prices.ensures.prices in
    let move : AreMoved k before.prices.items before.loads.items (step_length step) moved =
    rw (c.deref-in-loop-step.ensures.value, c.deref-in-loop-step-2.ensures.value, c.step_length-length.ensures) at c.in_ok-prices.ensures.moved in
    let point : (p : ProblemView) (classes : List ℕ) → AreGrouped p k classes sizes → IsPoint p ranges 1024 (by_classes classes here.prices.items) (by_classes classes here.loads.items) here.bound =
    rw c.in-Some-2.is at c.in_ok-point.ensures.point in
    let after : (p : ProblemView) (classes : List ℕ) → AreGrouped p k classes sizes → IsAfter p ranges (step + 1) (by_classes classes here.prices.items) =
    λ p classes h. rw same (moved_is p ranges step (by_classes classes before.prices.items) (by_classes classes before.loads.items) (by_classes classes moved) before.bound c.loop-step-test.true
    (c.price_vectors.ensures.steps (step + 1) (omega (arith, c.loop-step-test.true))) (c.loop-step.invariant.here p classes h)
    (AreMoved-by p k classes sizes h before.prices.items before.loads.items moved (step_length step) move) (c.loop-step.invariant.after p classes h)) in
    record {
      prices = prices;
      loads = rw c.in-Some-2.is at c.in_ok-point.ensures.loads;
      best_prices = c.in_ok-best-2.ensures.prices k c.loop-step.invariant.best_prices prices;
      here = point;
      after = after;
      best = λ p classes h. c.in_ok-best-2.ensures.greatest p ranges step (λ numbers. by_classes classes numbers) (point p classes h) (after p classes h)
          (c.loop-step.invariant.best p classes h);
    }

pub returns : goal.returns
returns c =
    let all : c.loop-step.step ≡ 64 = omega (arith, c.loop-step-test.false, c.loop-step.auto.step-end) in
    record {
      count = c.loop-step.invariant.best_prices.count;
      greatest = λ p classes h. rw all at (c.loop-step.invariant.best p classes h);
    }
