use Rattle.std.proofs.Common.{◌+◌, ◌<◌, ◌∙◌, ap, arith, pos, length}
use Rattle.std.specs.Prelude.{slice_index}
use Rattle.std.proofs.lemmas.List.{get_or-map, length-map}
use Rattle.choice_problem.specs.Problems.{amount, resource_count}
use Rattle.dual_bound.proofs.RankLemmas.{rank-le}
use Rattle.dual_bound.proofs.kept.kept_problem.Goals as goal

pub returns : goal.returns
returns c =
    let p = c.args.problem.now in
    let ranks = c.args.ranks.now in
    let limits = c.in_ok-limits.limits.items in
    rw c.new.ensures (record {
      units = c.in_ok-units.ensures.count;
      each = c.in_ok-units.ensures.each;
      resources = length-map limits amount ∙ c.in_ok-limits.ensures.count;
      limits = λ r l b.
          let within : slice_index ranks r < length limits = omega (arith, b, c.in_ok-limits.ensures.count, rank-le (resource_count p) ranks (r + 1) (resource_count p) c.requires (omega arith) (omega arith)) in
          get_or-map amount limits (slice_index ranks r) (pos 0) 0 within ∙ ap amount (c.in_ok-limits.ensures.each r l b);
    })
