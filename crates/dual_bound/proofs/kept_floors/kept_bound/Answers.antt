use Rattle.std.proofs.Common.{rules, ◌≡◌, ◌∙◌, ap}
use Rattle.choice_problem.specs.Bounds.{bound_of}
use Rattle.dual_bound.proofs.kept_floors.kept_bound.Goals as goal

pub returns : goal.returns
returns c =
    let p = c.args.problem.now in
    let prices = c.args.table.now.prices in
    let value : c.bound.result ≡ bound_of p c.args.ranges.now prices 1024 =
    c.bound.ensures p prices c.requires.totals ∙ ap (λ r. bound_of p r prices c.args.totals.now.scale) c.requires.ranges
    ∙ ap (λ s. bound_of p c.args.ranges.now prices s) c.requires.scale in
    search rules
