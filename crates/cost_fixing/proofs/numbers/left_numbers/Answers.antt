use Rattle.std.proofs.Common.{◌≡◌, ℕ, map, subst}
use Rattle.std.specs.Prelude.{IfOk}
use Rattle.std.specs.List.{range_with_len}
use Rattle.choice_problem.specs.Problems.{unit_count}
use Rattle.cost_fixing.specs.Fixings.{left_alts}
use Rattle.cost_fixing.proofs.numbers.left_numbers.Goals as goal

pub returns : goal.returns
returns c =
    let p = c.args.problem.now in
    subst
    (λ (s : ℕ). IfOk c.numbers_by.result (λ units. units.items ≡ map (λ u. left_alts p c.args.table.now.prices s c.args.cost u) (range_with_len 0 (unit_count p))))
    c.in_ok-totals.ensures.scale c.numbers_by.ensures
