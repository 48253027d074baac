use Rattle.std.proofs.Common.{arith}
use Rattle.branch_tree.proofs.RunLemmas.{held-more}
use Rattle.branch_tree.proofs.listing.places_of.Goals as goal

pub loop-run-preserved : goal.loop-run-preserved
loop-run-preserved c = record {
  places = λ i. omega (
    arith,
    held-more c.args.runs.now c.loop-run.run-index i c.loop-run-test.true,
    c.loop-run.invariant.places i,
    c.in_ok-push_numbers.ensures.uses i,
  );
  within = c.in_ok-push_numbers.ensures.within;
}
