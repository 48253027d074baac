use Rattle.std.proofs.Common.{rules, ◌≤◌, List, length, ap, ◌∙◌, subst, arith}
use Rattle.choice_problem.specs.declared.vectors.Price.{Price}
use Rattle.choice_problem.specs.Trees.{vector_at}
use Rattle.kept_bounds.specs.Kept.{IsKept}
use Rattle.kept_bounds.proofs.KeptLemmas.{leaf-by_totals}
use Rattle.kept_bounds.proofs.bounds.KeptBounds.leaf_holds.Goals as goal

pub returns-clause-holds : goal.returns-clause-holds
returns-clause-holds c =
    let n = c.args.named.vector in
    let k = c.in_ok-kept.kept in
    let within : n ≤ length c.items.result.now = search rules in
    let there : n ≤ length c.args.vectors.now = omega (arith, within, ap (λ (vs : List (List Price)). length vs) c.items.ensures) in
    let kept : IsKept c.args.problem.now (vector_at c.args.vectors.now n) k =
    subst (λ (v : List Price). IsKept c.args.problem.now v k) c.in_ok-table.ensures.vector c.in_ok-kept.ensures.kept in
    leaf-by_totals c.args.problem.now c.args.vectors.now c.args.cost c.args.ranges.now n c.args.named.scale k.totals c.closes-holds.result there (search rules)
    c.in_ok-kept.ensures.ranges (kept.scale ∙ c.in_ok-kept.ensures.scale) (c.closes-holds.ensures c.args.problem.now (vector_at c.args.vectors.now n) kept.totals)
