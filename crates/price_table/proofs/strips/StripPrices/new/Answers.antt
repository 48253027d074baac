use Rattle.std.proofs.Common.{◌≡◌, arith, ap, length}
use Rattle.price_table.proofs.StridedLemmas.{AreSums-rising}
use Rattle.price_table.proofs.strips.StripPrices.new.Goals as goal

pub invariant_of-result : goal.invariant_of-result
invariant_of-result c =
    let sums = c.in_ok-sums.sums.items in
    let h = c.in_ok-sums.ensures.sums in
    record {
      rising = AreSums-rising c.args.prices.now sums h;
      totalled = λ e. let none : length c.new.result.items ≡ 0 = ap length c.new.ensures.items in absurd (omega (arith, h.count, e, none));
    }
