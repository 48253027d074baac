use Rattle.std.proofs.Common.{◌≡◌, ◌≤◌, ◌*◌, List, length, ap, ◌∙◌, arith}
use Rattle.capacity_windows.specs.declared.movement.Movement.{Movement}
use Rattle.series_model.specs.Movements.{movements_of}
use Rattle.desk_commands.specs.Inspections.{movement_count, unit_dates}
use Rattle.desk_commands.proofs.InspectionLemmas.{few_movements}
use Rattle.desk_commands.proofs.inspection.movement_count.Goals as goal

pub returns-clause-value : goal.returns-clause-value
returns-clause-value c =
    c.len.ensures ∙ c.in_ok-listed.listed.ok.0
    ∙ ap (λ (ms : List Movement). length ms) (c.in_ok-listed.ensures ∙ ap (movements_of c.args.season.now c.args.unit.now) c.line_times.ensures)

pub returns-clause-few : goal.returns-clause-few
returns-clause-few c =
    let value : c.len.result ≡ movement_count c.args.season.now c.args.unit.now = returns-clause-value c in
    let most : movement_count c.args.season.now c.args.unit.now ≤ 2 * unit_dates c.args.season.now c.args.unit.now = few_movements c.args.season.now c.args.unit.now.request in
    omega (arith, value, most, c.unit_dates-dates.ensures.value, c.unit_dates-dates.ensures.few)
