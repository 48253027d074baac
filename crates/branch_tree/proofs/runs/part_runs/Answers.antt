use Rattle.std.proofs.Common.{arith}
use Rattle.std.specs.Prelude.{slice_index}
use Rattle.branch_tree.proofs.runs.part_runs.Goals as goal

pub returns-clause-uses : goal.returns-clause-uses
returns-clause-uses c = λ i l.
    let named = c.in_ok-push_named.ensures.uses i l in
    omega (arith, named, rw c.in_ok-runs.ensures.items at named, c.part_of-part.ensures.uses (slice_index c.args.listed.now i))
