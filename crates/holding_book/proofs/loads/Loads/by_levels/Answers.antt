use Rattle.std.proofs.Common.{rules, ◌≡◌, ℕ, Bool, true, false, List, map, filter, sym, subst, Option, Some, None}
use Rattle.std.specs.Prelude.{All, Contains, is_some}
use Rattle.series_model.specs.declared.times.Times.{Times}
use Rattle.series_model.specs.Displacement.{cost_at}
use Rattle.series_model.specs.Options.{TimesFit}
use Rattle.holding_book.specs.Books.{first_cheapest}
use Rattle.holding_book.specs.Private.Levels.{IsNextLevel, IsFloor}
use Rattle.holding_book.specs.Private.Loads.{fits_left}
use Rattle.holding_book.proofs.LevelLemmas.{first_floor, next_floor, best_found, none_found, none_fits, level_there, fewer_left}
use Rattle.holding_book.proofs.loads.Loads.by_levels.Goals as goal

pub loop-level-init : goal.loop-level-init
loop-level-init c =
    let loads = c.args.self.now in
    let line = c.args.line.now in
    let cost : Times → ℕ = cost_at loads.declaration line in
    let fits : Times → Bool = fits_left loads line in
    let level = c.next_level-level.result in
    let is : IsNextLevel None (map cost c.args.shifts.now) level = subst (λ (costs : List ℕ). IsNextLevel None costs level) c.requires.costs c.next_level-level.ensures in
    record {
      trials = c.requires.trials;
      floor = first_floor cost fits level c.args.shifts.now is;
      there = level_there None c.args.costs.now level c.next_level-level.ensures;
    }

pub first_at_level-requires-clause-shifts : goal.first_at_level-requires-clause-shifts
first_at_level-requires-clause-shifts c =
    subst (λ (shifts : List Times). All (TimesFit None) shifts) (sym c.requires.shifts) (c.shift_bounds.ensures.times c.args.self.now.declaration c.args.line.now c.requires.line)

pub returns-then-is_some-clause-best : goal.returns-then-is_some-clause-best
returns-then-is_some-clause-best c =
    let loads = c.args.self.now in
    let line = c.args.line.now in
    let cost : Times → ℕ = cost_at loads.declaration line in
    let fits : Times → Bool = fits_left loads line in
    let best = c.in_ok-best.best in
    let some : c.is_some.result ≡ true = search rules in
    let found : is_some best ≡ true = search rules in
    let floor : IsFloor cost fits c.args.shifts.now (Some c.in-Some.cost) = subst (λ (level : Option ℕ). IsFloor cost fits c.args.shifts.now level) c.in-Some.is c.loop-level.invariant.floor in
    subst (λ (shifts : List Times). best ≡ first_cheapest cost (filter fits shifts)) c.requires.shifts (best_found cost fits c.in-Some.cost c.args.shifts.now best floor c.in_ok-best.ensures.best found)

pub loop-level-smaller : goal.loop-level-smaller
loop-level-smaller c =
    let costs = c.args.costs.now in
    let has : Contains costs c.in-Some.cost = c.loop-level.invariant.there c.in-Some.cost c.in-Some.is in
    rw c.in-Some.is (fewer_left c.in-Some.cost costs c.next_level-level-in-Some.result has c.next_level-level-in-Some.ensures)

pub loop-level-preserved : goal.loop-level-preserved
loop-level-preserved c =
    let loads = c.args.self.now in
    let line = c.args.line.now in
    let cost : Times → ℕ = cost_at loads.declaration line in
    let fits : Times → Bool = fits_left loads line in
    let shifts = c.args.shifts.now in
    let best = c.in_ok-best.best in
    let level = c.in-Some.cost in
    let next = c.next_level-level-in-Some.result in
    let some : c.is_some.result ≡ false = search rules in
    let missing : is_some best ≡ false = search rules in
    let floor : IsFloor cost fits shifts (Some level) = subst (λ (level : Option ℕ). IsFloor cost fits shifts level) c.in-Some.is c.loop-level.invariant.floor in
    let is : IsNextLevel (Some level) (map cost shifts) next = subst (λ (costs : List ℕ). IsNextLevel (Some level) costs next) c.requires.costs c.next_level-level-in-Some.ensures in
    record {
      trials = c.in_ok-best.ensures.trials;
      floor = next_floor cost fits level next shifts floor (none_found cost fits level shifts best c.in_ok-best.ensures.best missing) is;
      there = level_there (Some level) c.args.costs.now next c.next_level-level-in-Some.ensures;
    }

pub returns-clause-best : goal.returns-clause-best
returns-clause-best c =
    let loads = c.args.self.now in
    let line = c.args.line.now in
    let cost : Times → ℕ = cost_at loads.declaration line in
    let fits : Times → Bool = fits_left loads line in
    let floor : IsFloor cost fits c.args.shifts.now None = subst (λ (level : Option ℕ). IsFloor cost fits c.args.shifts.now level) c.in_default.is c.loop-level.invariant.floor in
    subst (λ (shifts : List Times). None ≡ first_cheapest cost (filter fits shifts)) c.requires.shifts (sym (none_fits cost fits c.args.shifts.now floor))
