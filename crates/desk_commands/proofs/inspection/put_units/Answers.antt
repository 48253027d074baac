use Rattle.std.proofs.Common.{◌++◌, codes, length, refl}
use Rattle.std.specs.Fmt.{decimal}
use Rattle.series_model.specs.declared.group.Group.TheVariants.{F, R, L, B, N}
use Rattle.desk_commands.specs.Inspections.{group_count}
use Rattle.desk_commands.proofs.InspectionLemmas.{step_number}
use Rattle.desk_commands.proofs.inspection.put_units.Goals as goal

pub returns : goal.returns
returns c =
    step_number c.args.out.now.items c.put_tagged.new.out.items c.put.new.out.items (codes "UNITS ") (codes " F " ++ (decimal (group_count F c.args.units.now) ++ (codes " R " ++ (decimal (group_count R c.args.units.now) ++ (codes " L " ++ (decimal (group_count L c.args.units.now) ++ (codes " B " ++ (decimal (group_count B c.args.units.now) ++ (codes " N " ++ (decimal (group_count N c.args.units.now) ++ (codes "\n"))))))))))) (length c.args.units.now) (length c.args.units.now) refl c.in_ok-put_tagged.ensures
    (step_number c.put_tagged.new.out.items c.put_tagged-2.new.out.items c.put.new.out.items (codes " F ") (codes " R " ++ (decimal (group_count R c.args.units.now) ++ (codes " L " ++ (decimal (group_count L c.args.units.now) ++ (codes " B " ++ (decimal (group_count B c.args.units.now) ++ (codes " N " ++ (decimal (group_count N c.args.units.now) ++ (codes "\n"))))))))) (c.group_count.result) (group_count F c.args.units.now) c.group_count.ensures c.in_ok-put_tagged-2.ensures
    (step_number c.put_tagged-2.new.out.items c.put_tagged-3.new.out.items c.put.new.out.items (codes " R ") (codes " L " ++ (decimal (group_count L c.args.units.now) ++ (codes " B " ++ (decimal (group_count B c.args.units.now) ++ (codes " N " ++ (decimal (group_count N c.args.units.now) ++ (codes "\n"))))))) (c.group_count-2.result) (group_count R c.args.units.now) c.group_count-2.ensures c.in_ok-put_tagged-3.ensures
    (step_number c.put_tagged-3.new.out.items c.put_tagged-4.new.out.items c.put.new.out.items (codes " L ") (codes " B " ++ (decimal (group_count B c.args.units.now) ++ (codes " N " ++ (decimal (group_count N c.args.units.now) ++ (codes "\n"))))) (c.group_count-3.result) (group_count L c.args.units.now) c.group_count-3.ensures c.in_ok-put_tagged-4.ensures
    (step_number c.put_tagged-4.new.out.items c.put_tagged-5.new.out.items c.put.new.out.items (codes " B ") (codes " N " ++ (decimal (group_count N c.args.units.now) ++ (codes "\n"))) (c.group_count-4.result) (group_count B c.args.units.now) c.group_count-4.ensures c.in_ok-put_tagged-5.ensures
    (step_number c.put_tagged-5.new.out.items c.put_tagged-6.new.out.items c.put.new.out.items (codes " N ") (codes "\n") (c.group_count-5.result) (group_count N c.args.units.now) c.group_count-5.ensures c.in_ok-put_tagged-6.ensures
    (c.in_ok-put.ensures))))))
