use Rattle.std.proofs.Common.{◌++◌, codes, refl}
use Rattle.std.specs.Fmt.{decimal}
use Rattle.desk_commands.proofs.InspectionLemmas.{step_number}
use Rattle.desk_commands.proofs.inspection.put_caps.Goals as goal

pub returns : goal.returns
returns c =
    step_number c.args.out.now.items c.put_tagged.new.out.items c.put.new.out.items (codes "CAPS ") (codes " WINDOWS " ++ (decimal (c.args.windows) ++ (codes "\n"))) (c.args.caps) (c.args.caps) refl c.in_ok-put_tagged.ensures
    (step_number c.put_tagged.new.out.items c.put_tagged-2.new.out.items c.put.new.out.items (codes " WINDOWS ") (codes "\n") (c.args.windows) (c.args.windows) refl c.in_ok-put_tagged-2.ensures
    (c.in_ok-put.ensures))
