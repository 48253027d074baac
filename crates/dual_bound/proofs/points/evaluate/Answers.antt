use Rattle.std.proofs.Common.{arith}
use Rattle.std.specs.Prelude.{slice_index}
use Rattle.std.proofs.lemmas.Int.{ints}
use Rattle.price_table.specs.Strips.{IsPricedBy}
use Rattle.dual_bound.specs.Loops.{vector_in}
use Rattle.dual_bound.proofs.StepLemmas.{vector_in-priced}
use Rattle.dual_bound.proofs.points.evaluate.Goals as goal

pub least_loads-requires-clause-priced : goal.least_loads-requires-clause-priced
least_loads-requires-clause-priced c =
    let p = c.args.problem.now in
    let prices = c.args.prices.items in
    (vector_in p prices, rw c.part_costs.ensures.same (vector_in-priced p prices c.in_ok-strips.strips (c.price_vectors.ensures.valid p (λ r. slice_index prices r) c.requires.prices.small) c.requires.prices c.in_ok-strips.ensures.few (rw c.deref.ensures.value at c.in_ok-strips.ensures.sums)))

pub returns-clause-point : goal.returns-clause-point
returns-clause-point c =
    let p = c.args.problem.now in
    let prices = c.args.prices.items in
    let vector = vector_in p prices in
    let priced : IsPricedBy p vector c.part_costs.new.strips =
    rw c.part_costs.ensures.same (vector_in-priced p prices c.in_ok-strips.strips (c.price_vectors.ensures.valid p (λ r. slice_index prices r) c.requires.prices.small) c.requires.prices c.in_ok-strips.ensures.few (rw c.deref.ensures.value at c.in_ok-strips.ensures.sums)) in
    let total = c.in_ok-total.ensures.total vector priced in
    let limits = rw c.deref-3.ensures.value at c.priced_limits.ensures.value in
    record {
      prices = c.requires.prices;
      load_count = c.in_ok-total.ensures.count;
      loads_are = λ r l. c.in_ok-total.ensures.loads vector priced r l;
      few = λ r l. omega (arith, c.in_ok-total.ensures.loads vector priced r l, c.in_ok-total.ensures.few vector priced r);
      bound_is = omega (arith, ints, c.difference-bound.ensures, total, limits);
    }
