use Rattle.std.proofs.Common.{sym}
use Rattle.session_desk.proofs.doors.serve_all.Goals as goal

pub returns-clause-each : goal.returns-clause-each
returns-clause-each g c i w lt =
    let each = c.for_each_mut.ensures i w lt in
    rw (sym each.1.argument_is, sym each.1.left) each.1.call.1.1.1

pub returns-clause-stopped : goal.returns-clause-stopped
returns-clause-stopped g c i w lt =
    let each = c.for_each_mut.ensures i w lt in
    rw (sym each.1.left) each.1.call.1.1.0
