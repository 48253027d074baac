use Rattle.std.proofs.Common.{arith}
use Rattle.branch_tree.proofs.runs.alt_runs.Goals as goal

pub returns-clause-uses : goal.returns-clause-uses
returns-clause-uses c = λ i l.
    let one = rw c.unit_alts.ensures.value at (c.in_ok-push_named.ensures.uses i l) in
    let two = rw c.unit_alts.ensures.value at (c.in_ok-push_named-2.ensures.uses i l) in
    omega (arith, one, two, rw c.in_ok-runs.ensures.items at one)
