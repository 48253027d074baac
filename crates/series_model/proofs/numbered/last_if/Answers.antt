use Rattle.std.proofs.Common.{arith}
use Rattle.series_model.proofs.NumberedLemmas.{only-first, only-later}
use Rattle.series_model.proofs.numbered.last_if.Goals as goal

pub returns-then-left-eq0 : goal.returns-then-left-eq0
returns-then-left-eq0 c = only-first c.args.last c.args.left c.if-left-eq0.true

pub returns-else-left-eq0 : goal.returns-else-left-eq0
returns-else-left-eq0 c = only-later c.args.last c.args.left (omega (arith, c.if-left-eq0.false))
