use Rattle.std.proofs.Common.{codes, refl}
use Rattle.desk_commands.proofs.InspectionLemmas.{step_number}
use Rattle.desk_commands.proofs.inspection.put_messages.Goals as goal

pub returns : goal.returns
returns c =
    step_number c.args.out.now.items c.put_tagged.new.out.items c.put.new.out.items (codes "MESSAGES ") (codes "\n") (c.args.messages) (c.args.messages) refl c.in_ok-put_tagged.ensures
    (c.in_ok-put.ensures)
