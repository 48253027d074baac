use Rattle.std.proofs.Common.{arith}
use Rattle.std.proofs.lemmas.List.Sums.{sum_by_more}
use Rattle.std.specs.Prelude.{slice_index}
use Rattle.choice_problem.specs.declared.strips.Strip.{Strip}
use Rattle.choice_problem.specs.Strips.{strip_uses}
use Rattle.branch_tree.proofs.runs.push_strips.Goals as goal

pub loop-strip-preserved : goal.loop-strip-preserved
loop-strip-preserved c = record {
  uses = λ i l. omega (
    arith,
    sum_by_more (λ (s : Strip). strip_uses s (slice_index c.args.listed.now i)) c.args.strips.now c.loop-strip.strip-index (record { first = 0; width = 0; gap = 0; times = 0 }) c.loop-strip-test.true,
    c.in_ok-push_strip.ensures.uses i l,
    c.loop-strip.invariant.uses i l,
  );
  below = c.in_ok-push_strip.ensures.below;
}
