use Rattle.std.proofs.Common.{inr}
use Rattle.fault_causes.proofs.shape.period_flaw.Goals as goal

pub returns-in-Some : goal.returns-in-Some
returns-in-Some c =
    let found = c.in-Some.ensures in
    inr (found.0, found.1, found.2, c.dates_flaw.ensures c.args.season.now found.0 found.1 found.3 found.4)
