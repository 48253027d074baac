use Rattle.std.proofs.Common.{◌≡◌, ◌∙◌, sym, ap, subst, List}
use Rattle.std.proofs.lemmas.Result.{IfOk-weaker}
use Rattle.choice_problem.specs.declared.vectors.Price.{Price}
use Rattle.choice_problem.specs.Roots.{IsNodeVector}
use Rattle.dual_bound.specs.Loops.{vector_in}
use Rattle.dual_bound.proofs.StepLemmas.{IsGreatestUpTo-node}
use Rattle.dual_bound.proofs.roots.node_vector.Goals as goal

pub returns-clause-node : goal.returns-clause-node
returns-clause-node c =
    let p = c.args.problem.now in
    let ranges = c.args.ranges.now in
    let best = c.in_ok-best.best in
    let Node : List Price → Type 0 = λ v. IsNodeVector p ranges v in
    let node : IsNodeVector p ranges (vector_in p best.prices.items) = IsGreatestUpTo-node p ranges best.prices.items best.bound c.in_ok-best.ensures in
    IfOk-weaker c.vector_in.result (λ v. v ≡ vector_in p c.deref-2.result.now) Node
    (λ v e. subst Node (sym (e ∙ ap (λ items. vector_in p items) c.deref-2.ensures.value)) node)
    c.vector_in.ensures.value
