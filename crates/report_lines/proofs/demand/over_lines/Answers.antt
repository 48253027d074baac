use Rattle.std.proofs.Common.{◌∙◌}
use Rattle.report_lines.proofs.DemandLemmas.{none_earlier, zeros_at}
use Rattle.report_lines.proofs.demand.over_lines.Goals as goal

pub put_over-requires-clause-earlier : goal.put_over-requires-clause-earlier
put_over-requires-clause-earlier c =
    none_earlier c.args.submission.now.declaration c.args.submission.now.units c.deref-2.result.now c.deref-3.result.now (c.deref-2.ensures.value ∙ c.in_ok-states.ensures.states) (λ r. zeros_at c.deref-3.result.now _ r (c.deref-3.ensures.value ∙ c.in_ok-none.ensures.items_if_clones_equal (λ y e. e)))
