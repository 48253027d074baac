use Rattle.std.proofs.Common.{◌+◌, ◌-◌, ◌≤◌, ◌∙◌, sym, arith}
use Rattle.choice_problem.specs.Strips.{run_start}
use Rattle.choice_problem.specs.Bounds.{price_at}
use Rattle.price_table.proofs.FewLemmas.{strip-before, strip-after}
use Rattle.price_table.proofs.few.looked_up_price.Goals as goal

pub loop-place-init : goal.loop-place-init
loop-place-init c = record {
  summed = sym (strip-before c.args.prices.now c.args.strip.now c.first_from-place.result c.first_from-place.ensures.before);
  small = omega arith;
}

pub returns-then-from-end : goal.returns-then-from-end
returns-then-from-end c =
    let prices = c.args.prices.now in
    let s = c.args.strip.now in
    let place = c.loop-place.place in
    let end = rw c.saturating_sub.ensures at c.run-end.ensures.end in
    let past : run_start s (s.times - 1) + s.width ≤ (price_at prices place).resource = omega (arith, c.if-from-end.true, c.from.ensures, end) in
    c.loop-place.invariant.summed ∙ strip-after prices s place c.requires past
