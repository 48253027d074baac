use Rattle.std.proofs.Common.{◌≡◌, ◌<◌, ◌∙◌, length, rules}
use Rattle.std.proofs.lemmas.List.Sums.{sum_by_more}
use Rattle.choice_problem.specs.declared.strips.Strip.{Strip}
use Rattle.choice_problem.specs.Strips.{strip_uses}
use Rattle.wasg_stages.proofs.LoadLemmas.{lowers-on}
use Rattle.wasg_stages.proofs.limits.lower_part.Goals as goal

pub loop-strip-preserved : goal.loop-strip-preserved
loop-strip-preserved c =
    let strips = c.strips-strip-items.result.now in
    let i = c.loop-strip.strip-index in
    let lt : i < length strips = search rules in
    let long : length c.lower_strip.new.limits ≡ length c.loop-strip.limits = search rules in
    record {
      count = long ∙ c.loop-strip.invariant.count;
      lowered = lowers-on c.args.limits.now c.loop-strip.limits c.lower_strip.new.limits _ _ _ c.loop-strip.invariant.count c.loop-strip.invariant.lowered c.lower_strip.ensures
          (λ r. sum_by_more (λ (s : Strip). strip_uses s r) strips i (record { first = 0; width = 0; gap = 0; times = 0 }) lt);
    }
