use Rattle.std.proofs.Common.{rules, ◌≡◌, ◌++◌, ◌∙◌, [], List, ap, map}
use Rattle.std.proofs.lemmas.Result.{IfOk-weaker}
use Rattle.choice_problem.specs.declared.nodes.Node.{Node}
use Rattle.choice_problem.specs.Grafts.{AreOn}
use Rattle.search_workers.specs.Settings.{Drives}
use Rattle.search_workers.specs.Searchers.{made}
use Rattle.search_workers.specs.Work.{IsMadeOf, all_nodes, with_undone_parts}
use Rattle.search_workers.proofs.opening.with_part.Goals as goal

pub returns : goal.returns
returns c =
    let s = c.args.task.now in
    let node = c.args.node in
    let trees : List (List Node) = map (λ t. t.items) c.in_ok-trees.trees.items in
    let made_is : made c.in_ok-done.done.items ≡ with_undone_parts node ++ [] = ap made c.in_ok-done.ensures ∙ ap (λ (l : List Node). l ++ []) c.in_ok-part.ensures in
    let made_of : IsMadeOf (all_nodes trees) (with_undone_parts node ++ []) = rw made_is at c.in_ok-trees.ensures.nodes in
    let on : AreOn (λ ranges node. Drives s ranges node) c.args.pieces.now trees = c.in_ok-trees.ensures.shape in
    IfOk-weaker c.graft_nodes.result _ _ (λ r h. (trees, search rules, on, made_of)) c.graft_nodes.ensures
