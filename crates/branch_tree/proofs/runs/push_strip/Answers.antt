use Rattle.std.proofs.Common.{◌≡◌, arith}
use Rattle.std.specs.Prelude.{slice_index}
use Rattle.choice_problem.specs.Strips.{is_in_run}
use Rattle.finite_sums.proofs.SumLemmas.{count_below-more}
use Rattle.branch_tree.proofs.runs.push_strip.Goals as goal

pub loop-i-preserved : goal.loop-i-preserved
loop-i-preserved c =
    let s = c.args.strip.now in
    let uses = rw (c.run-start.ensures.start, c.run-start.ensures.end) at c.in_ok-push_run.ensures.uses in
    record {
      uses = λ i l. omega (arith, uses i l, c.loop-i.invariant.uses i l, count_below-more c.loop-i.i (λ k. is_in_run s (slice_index c.args.listed.now i) k));
      below = c.in_ok-push_run.ensures.below;
    }

pub returns-clause-uses : goal.returns-clause-uses
returns-clause-uses c = λ i l.
    let e : c.loop-i.i ≡ c.args.strip.now.times = omega (arith, c.loop-i.auto.i-end, c.loop-i-test.false) in
    rw e at (c.loop-i.invariant.uses i l)
