use Rattle.std.proofs.Common.{◌++◌, codes}
use Rattle.std.specs.Fmt.{decimal}
use Rattle.desk_commands.specs.Inspections.{date_total, movement_total}
use Rattle.desk_commands.proofs.InspectionLemmas.{step_number}
use Rattle.desk_commands.proofs.inspection.put_dates.Goals as goal

pub returns : goal.returns
returns c =
    step_number c.args.out.now.items c.put_tagged.new.out.items c.put.new.out.items (codes "DATES ") (codes " MOVEMENTS " ++ (decimal (movement_total c.args.season.now c.args.units.now) ++ (codes "\n"))) (c.date_total.result) (date_total c.args.season.now c.args.units.now) c.date_total.ensures c.in_ok-put_tagged.ensures
    (step_number c.put_tagged.new.out.items c.put_tagged-2.new.out.items c.put.new.out.items (codes " MOVEMENTS ") (codes "\n") (c.in_ok-movements.movements) (movement_total c.args.season.now c.args.units.now) c.in_ok-movements.ensures c.in_ok-put_tagged-2.ensures
    (c.in_ok-put.ensures))
