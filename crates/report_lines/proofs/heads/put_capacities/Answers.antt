use Rattle.std.proofs.Common.{ℕ, ◌+◌, ◌∙◌, ap, List, ◌++◌, drop}
use Rattle.std.proofs.lemmas.List.{drop_more}
use Rattle.report_lines.specs.Heads.{capacity_lines}
use Rattle.report_lines.proofs.WindowLemmas.{capacity_next}
use Rattle.report_lines.proofs.heads.put_capacities.Goals as goal

pub loop-i-preserved : goal.loop-i-preserved
loop-i-preserved c =
    let i = c.loop-i.i in
    let rules = c.args.rules.now in
    ap (λ (t : List ℕ). t ++ capacity_lines (i + 1 + 1) (drop (i + 1) rules)) c.in_ok-put_capacity.ensures
    ∙ capacity_next rules i _ c.loop-i.out.items (drop_more rules i _ c.loop-i-test.true)
    ∙ c.loop-i.invariant
