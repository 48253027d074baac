use Rattle.std.proofs.Common.{◌≡◌, ℕ, List, length}
use Rattle.choice_problem.specs.Problems.{ProblemView, resource_count}
use Rattle.price_table.specs.Strips.{ArePrices}
use Rattle.dual_bound.specs.Loops.{IsPoint, IsAfter, IsGreatestUpTo}
use Rattle.dual_bound.specs.Classes.{AreGrouped, by_classes}
use Rattle.dual_bound.proofs.classes.best_class_prices.Given as goal

abbrev pub invariant-loop-step : goal.invariant-loop-step
invariant-loop-step l = record {
  prices : ArePrices l.grouped l.here.prices.items;
  loads : length l.here.loads.items ≡ resource_count l.grouped;
  best_prices : ArePrices l.grouped l.best.prices.items;
  here : (p : ProblemView) (classes : List ℕ) → AreGrouped p l.grouped classes l.sizes →
      IsPoint p l.ranges 1024 (by_classes classes l.here.prices.items) (by_classes classes l.here.loads.items) l.here.bound;
  after : (p : ProblemView) (classes : List ℕ) → AreGrouped p l.grouped classes l.sizes → IsAfter p l.ranges l.step (by_classes classes l.here.prices.items);
  best : (p : ProblemView) (classes : List ℕ) → AreGrouped p l.grouped classes l.sizes → IsGreatestUpTo p l.ranges l.step (by_classes classes l.best.prices.items) l.best.bound;
}
