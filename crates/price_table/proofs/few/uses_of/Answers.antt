use Rattle.std.proofs.Common.{sym}
use Rattle.price_table.proofs.FewLemmas.{strip_uses-between}
use Rattle.price_table.proofs.few.uses_of.Goals as goal

pub returns-then-saturating_sub-strip : goal.returns-then-saturating_sub-strip
returns-then-saturating_sub-strip c =
    sym (strip_uses-between c.args.strip.now c.args.resource (rw (sym c.saturating_sub.ensures) c.if-saturating_sub-strip.true))
