use Rattle.std.proofs.Common.{arith}
use Rattle.search_workers.proofs.CostLemmas.{at_most_trans}
use Rattle.search_workers.proofs.opening.open_parts.Goals as goal

pub loop-taken-preserved : goal.loop-taken-preserved
loop-taken-preserved c =
    let i = c.loop-taken.invariant in
    let k = c.in_ok-state.ensures.visits in
    record {
      place = c.in_ok-state.ensures.place;
      so_far = k.so_far;
      count = omega (arith, k.count, i.count);
      within = omega (arith, c.loop-taken-test.true);
      fell = at_most_trans c.in_ok-state.state.cost c.loop-taken.state.cost c.args.state.cost k.fell i.fell;
    }
