use Rattle.std.proofs.Common.{arith}
use Rattle.season_report.proofs.passed.lowest_named.Goals as goal

pub returns-in-Some : goal.returns-in-Some
returns-in-Some c =
    let ensured = rw c.limits.ensures.value at c.lowest_in_part.ensures in
    rw c.in-Some.is (rw c.part.ensures.value at ensured)

pub returns-in-None : goal.returns-in-None
returns-in-None c = rw c.in-None.is (λ r lt is. absurd (omega (arith, is)))
