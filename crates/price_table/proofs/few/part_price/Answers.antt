use Rattle.std.proofs.Common.{◌≡◌, arith, length}
use Rattle.std.proofs.lemmas.Grind.{common_steps}
use Rattle.price_table.proofs.FewLemmas.{capped_priced-empty, capped_priced-more}
use Rattle.price_table.proofs.few.part_price.Goals as goal

pub returns-then-is_empty : goal.returns-then-is_empty
returns-then-is_empty c =
    let none : length c.args.prices.now ≡ 0 = grind (arith, common_steps) in
    capped_priced-empty c.args.prices.now c.args.part.now none

pub loop-strip-preserved : goal.loop-strip-preserved
loop-strip-preserved c =
    let more = capped_priced-more c.args.prices.now c.strips-strip-items.result.now c.loop-strip.strip-index (record { first = 0; width = 0; gap = 0; times = 0 }) c.loop-strip-test.true in
    omega (arith, c.saturating_add-total.ensures, c.strip_price.ensures, c.loop-strip.invariant, more)
