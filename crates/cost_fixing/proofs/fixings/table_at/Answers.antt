use Rattle.std.proofs.Common.{rules, ◌-◌, ◌<◌, List, length, get_or, sym, ap, ◌∙◌, subst, arith}
use Rattle.choice_problem.specs.declared.vectors.Price.{Price}
use Rattle.choice_problem.specs.Bounds.{IsVector}
use Rattle.cost_fixing.proofs.fixings.table_at.Goals as goal

pub price_table-requires-2 : goal.price_table-requires-2
price_table-requires-2 c =
    let vector = c.index-vectors-number.result in
    let k = c.args.number - 1 in
    let there : k < length c.items-vectors.result.now = search rules in
    let lt : k < length c.args.vectors.now = omega (arith, there, ap (λ (vs : List (List Price)). length vs) c.items-vectors.ensures) in
    subst (IsVector c.args.problem.now) (sym (c.index-vectors-number.is ∙ ap (λ (vs : List (List Price)). get_or vs k vector) c.items-vectors.ensures))
    (c.requires.vectors k vector lt)
