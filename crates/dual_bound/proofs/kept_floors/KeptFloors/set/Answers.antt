use Rattle.std.proofs.Common.{◌≡◌, ◌<◌, ◌++◌, length, take, drop, sym, subst, arith}
use Rattle.choice_problem.specs.Problems.{unit_count, alt_count}
use Rattle.dual_bound.specs.KeptFloors.{FloorsView}
use Rattle.dual_bound.proofs.HoldLemmas.{AreLeastCosts-set, written-over}
use Rattle.dual_bound.proofs.kept_floors.KeptFloors.set.Goals as goal

pub invariant_of-self : goal.invariant_of-self
invariant_of-self c =
    let p = c.self.inside.problem.now in
    let ranges = c.self.inside.ranges in
    let old = c.self.inside.totals in
    let new = c.set_kept.new.totals in
    let whole : take old.len (new ++ drop (length new) old.items) ≡ new = written-over old.len new old.items (omega arith) in
    let there : c.args.unit < unit_count p = subst (λ (v : FloorsView). c.args.unit < unit_count v.problem) (sym c.self.view_is) c.requires.unit in
    let within : c.args.high < alt_count p c.args.unit = subst (λ (v : FloorsView). c.args.high < alt_count v.problem c.args.unit) (sym c.self.view_is) c.requires.there in
    record {
      few = c.self.invariant.few;
      each = c.self.invariant.each;
      valid = c.set.ensures.valid p c.self.invariant.valid c.requires.ordered within;
      costs_are = rw c.set.ensures.value
          (AreLeastCosts-set p ranges c.self.inside.costs.items c.args.unit c.args.low c.args.high c.least_cost.result there c.self.invariant.valid.length
          c.self.invariant.costs_are c.least_cost.ensures.value c.least_cost.ensures.small);
      kept = rw (whole, c.set.ensures.value) c.set_kept.ensures;
    }
