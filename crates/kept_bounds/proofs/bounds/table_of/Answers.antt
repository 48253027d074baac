use Rattle.std.proofs.Common.{rules, ◌-◌, ◌<◌, List, length, get_or, sym, ap, ◌∙◌, subst, arith}
use Rattle.choice_problem.specs.declared.vectors.Price.{Price}
use Rattle.choice_problem.specs.Bounds.{IsVector}
use Rattle.kept_bounds.proofs.bounds.table_of.Goals as goal

pub price_table-requires-2 : goal.price_table-requires-2
price_table-requires-2 c =
    let vector = c.index-items-vector.result in
    let k = c.args.vector - 1 in
    let there : k < length c.items.result.now = search rules in
    let lt : k < length c.args.vectors.now = omega (arith, there, ap (λ (vs : List (List Price)). length vs) c.items.ensures) in
    subst (IsVector c.args.problem.now) (sym (c.index-items-vector.is ∙ ap (λ (vs : List (List Price)). get_or vs k vector) c.items.ensures)) (c.requires.vectors k vector lt)
