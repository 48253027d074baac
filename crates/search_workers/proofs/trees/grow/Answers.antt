use Rattle.std.proofs.Common.{rules, ◌≡◌, ◌++◌, ◌∷◌, ◌+◌, ◌<◌, [], drop, map, length, sym, ◌∙◌, ap, List, arith}
use Rattle.std.proofs.lemmas.List.{drop_more, get_or-map, length-map}
use Rattle.choice_problem.specs.declared.nodes.Node.{Node}
use Rattle.choice_problem.specs.declared.nodes.Node.TheVariants.{Undone}
use Rattle.search_workers.proofs.GraftLemmas.{grow_tree}
use Rattle.search_workers.proofs.trees.grow.Goals as goal

pub returns-then-next-trees-clause-grown : goal.returns-then-next-trees-clause-grown
returns-then-next-trees-clause-grown c = λ rest.
    let trees = c.args.trees.now in
    let i = c.args.next in
    let tree = c.index-trees-next.result in
    let items : List (List Node) = map (λ t. t.items) trees in
    let undone : c.args.node ≡ Undone = search rules in
    let new : c.push_all.new.all.items ≡ c.args.all.now.items ++ tree.items = search rules in
    let below : i < length trees = search rules in
    let below' : i < length items = omega (arith, below, length-map trees (λ t. t.items)) in
    let at_i = get_or-map (λ t. t.items) trees i tree [] below ∙ ap (λ t. t.items) (sym c.index-trees-next.is) in
    let step = drop_more items i [] below' ∙ ap (λ z. z ∷ drop (i + 1) items) at_i in
    rw undone (grow_tree c.args.all.now.items c.push_all.new.all.items tree.items rest (drop i items) (drop (i + 1) items) new step)
