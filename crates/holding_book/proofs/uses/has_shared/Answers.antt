use Rattle.std.proofs.Common.{ap, arith, Option}
use Rattle.window_counts.specs.Counts.{some_uses}
use Rattle.holding_book.proofs.uses.has_shared.Goals as goal

pub has_two-requires-clause-few : goal.has_two-requires-clause-few
has_two-requires-clause-few c r = omega (arith, c.requires.few r, ap (λ (part : Option _). some_uses part r) c.in-Some-Some.is-1)
