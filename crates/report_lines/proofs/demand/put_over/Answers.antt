use Rattle.std.proofs.Common.{ℕ, List, ◌++◌, length, slice_index, sym, ◌∙◌, ap, arith, refl}
use Rattle.season_days.specs.Capacity.{Capacity, capacity_of, declared_resources}
use Rattle.report_lines.specs.Peaks.{excess_lines, stage_excess}
use Rattle.report_lines.proofs.DemandLemmas.{over_is}
use Rattle.report_lines.proofs.demand.put_over.Goals as goal

pub put_lines-requires-clause-windows : goal.put_lines-requires-clause-windows
put_lines-requires-clause-windows c = c.windows.ensures.value ∙ ap capacity_of (sym c.declaration.ensures.value)

pub put_lines-requires-clause-count : goal.put_lines-requires-clause-count
put_lines-requires-clause-count c = ap length (c.deref.ensures.value ∙ c.in_ok-limits.ensures) ∙ c.requires.problem.resources ∙ ap declared_resources (sym c.windows.ensures.value)

pub put_lines-requires-clause-has : goal.put_lines-requires-clause-has
put_lines-requires-clause-has c =
    let long = ap length c.in_ok-limits.ensures in
    let all = ap declared_resources c.windows.ensures.value in
    record {
      few = omega (arith, long, c.requires.problem.resources, all, c.windows.ensures.limits.few);
      loads = omega (arith, long, c.in_ok-least.ensures.count);
      earlier = omega (arith, long, c.requires.problem.resources, c.requires.count);
    }

pub returns : goal.returns
returns c =
    let d = c.args.submission.now.declaration in
    c.in_ok-put_lines.ensures (stage_excess d c.args.stage c.args.states.now) (over_is d c.args.stage c.args.states.now c.args.problem.now _ c.args.given.now c.requires.problem (c.deref.ensures.value ∙ c.in_ok-limits.ensures) (λ r lt. ap (λ (l : List ℕ). slice_index l r) c.deref-2.ensures.value ∙ c.in_ok-least.ensures.each r lt) refl c.requires.earlier)
    ∙ ap (λ (k : Capacity). c.args.out.now.items ++ excess_lines k (stage_excess d c.args.stage c.args.states.now)) c.windows.ensures.value
