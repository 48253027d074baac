use Rattle.std.proofs.Common.{arith}
use Rattle.std.specs.Prelude.{slice_index_or}
use Rattle.std.proofs.lemmas.List.Sums.{sum_by_more}
use Rattle.choice_problem.specs.declared.strips.Strip.{Strip}
use Rattle.choice_problem.specs.Strips.{strip_uses}
use Rattle.problem_rows.proofs.counts.is_small.Goals as goal

pub loop-strip-preserved : goal.loop-strip-preserved
loop-strip-preserved c = λ r.
    let strips = c.args.strips.now in
    let none : Strip = record { first = 0; width = 0; gap = 0; times = 0 } in
    let more = sum_by_more (λ (s : Strip). strip_uses s r) strips c.loop-strip.strip-index none c.loop-strip-test.true in
    omega (arith, more, c.loop-strip.invariant r, c.strip_list.ensures.few (slice_index_or strips c.loop-strip.strip-index none) r)
