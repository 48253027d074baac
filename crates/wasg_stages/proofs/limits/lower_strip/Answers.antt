use Rattle.std.proofs.Common.{◌≡◌, ◌∙◌, length, rules}
use Rattle.finite_sums.specs.Sums.{count_below}
use Rattle.choice_problem.specs.Strips.{is_in_run}
use Rattle.wasg_stages.proofs.LoadLemmas.{lowers-on, run-more, until-end}
use Rattle.wasg_stages.proofs.limits.lower_strip.Goals as goal

pub loop-i-preserved : goal.loop-i-preserved
loop-i-preserved c =
    let s = c.args.strip.now in
    let i = c.loop-i.i in
    let long : length c.lower_run.new.limits ≡ length c.loop-i.limits = search rules in
    record {
      count = long ∙ c.loop-i.invariant.count;
      lowered = lowers-on c.args.limits.now c.loop-i.limits c.lower_run.new.limits _ _ _ c.loop-i.invariant.count c.loop-i.invariant.lowered c.lower_run.ensures
          (λ r. run-more s i r c.run-start.result.0 c.run-start.result.1 c.run-start.ensures.start c.run-start.ensures.end);
    }

pub returns : goal.returns
returns c =
    let s = c.args.strip.now in
    let end : c.loop-i.i ≡ s.times = search rules in
    until-end c.args.limits.now c.loop-i.limits (λ k r. count_below k (λ i. is_in_run s r i)) c.loop-i.i s.times end c.loop-i.invariant.lowered
