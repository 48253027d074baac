use Rattle.dual_bound.specs.Loops.{IsPoint, IsAfter, IsGreatestUpTo}
use Rattle.dual_bound.proofs.roots.best_on_each.Given as goal

abbrev pub invariant-loop-step : goal.invariant-loop-step
invariant-loop-step l = record {
  here : IsPoint l.problem l.ranges 1024 l.here.prices.items l.here.loads.items l.here.bound;
  after : IsAfter l.problem l.ranges l.step l.here.prices.items;
  best : IsGreatestUpTo l.problem l.ranges l.step l.best.prices.items l.best.bound;
}
