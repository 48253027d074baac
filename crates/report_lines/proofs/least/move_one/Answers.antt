use Rattle.std.proofs.Common.{arith, refl}
use Rattle.report_lines.proofs.LeastLemmas.{moves_skip, moves_one}
use Rattle.report_lines.proofs.least.move_one.Goals as goal

pub returns-then-uses-eq0 : goal.returns-then-uses-eq0
returns-then-uses-eq0 c = moves_skip c.args.counts.now c.args.used.now.items c.args.at c.if-uses-eq0.true

pub returns : goal.returns
returns c = rw c.in_ok-push.ensures.items (moves_one c.args.counts.now c.args.used.now.items c.args.at _ c.requires.there refl (omega arith))
