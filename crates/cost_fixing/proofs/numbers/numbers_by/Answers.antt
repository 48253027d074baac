use Rattle.std.proofs.Common.{ℕ, List, ap, ◌∙◌}
use Rattle.cost_fixing.specs.Fixings.{left_alts}
use Rattle.cost_fixing.proofs.StepLemmas.{map-push}
use Rattle.cost_fixing.proofs.numbers.numbers_by.Goals as goal

pub loop-unit-preserved : goal.loop-unit-preserved
loop-unit-preserved c =
    let p = c.args.problem.now in
    let prices = c.args.table.now.prices in
    let unit = c.loop-unit.unit in
    let made = c.in_ok-unit_numbers.ensures in
    record {
      totals = made.totals;
      whole = made.whole;
      scale = made.scale ∙ c.loop-unit.invariant.scale;
      units = c.in_ok-push.ensures.items
          ∙ map-push {X = List ℕ} (λ u. left_alts p prices c.args.totals.now.scale c.args.cost u) unit c.loop-unit.units.items c.in_ok-unit_numbers.field-0 c.loop-unit.invariant.units
          (made.value ∙ ap (λ (s : ℕ). left_alts p prices s c.args.cost unit) c.loop-unit.invariant.scale);
    }
