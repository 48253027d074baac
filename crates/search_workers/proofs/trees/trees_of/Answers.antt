use Rattle.std.proofs.Common.{rules, ◌≡◌, ◌∙◌, ◌∷◌, [], List, arith, length, map}
use Rattle.std.proofs.lemmas.List.{length-map}
use Rattle.std.proofs.lemmas.List.Elements.{All-map}
use Rattle.choice_problem.specs.declared.nodes.Node.{Node}
use Rattle.choice_problem.specs.declared.nodes.Node.TheVariants.{Undone}
use Rattle.search_workers.specs.declared.searchers.Done.{Done}
use Rattle.search_workers.proofs.TreesLemmas.{placed_none, placed_more, placed_all, placed_last, map-set}
use Rattle.search_workers.proofs.trees.trees_of.Goals as goal

pub loop-last-init : goal.loop-last-init
loop-last-init c =
    let trees = c.in_ok-trees.trees.items in
    let e = c.in_ok-trees.ensures in
    let count : length (map (λ t. t.items) trees) ≡ length c.args.pieces.now = length-map trees (λ t. t.items) ∙ e.count in
    placed_none c.args.task.now c.args.pieces.now c.args.done.items (map (λ t. t.items) trees) count
    (All-map (λ (t : List Node). t ≡ Undone ∷ []) (λ t. t.items) trees e.each)

pub set_tree-requires : goal.set_tree-requires
set_tree-requires c =
    let trees = c.loop-last.trees.items in
    let k = placed_last c.args.task.now c.args.pieces.now c.args.done.items c.loop-last.rest.items c.pop.new.self.items c.in-Some.last (map (λ t. t.items) trees)
    c.loop-last.invariant c.in-Some.ensures.items c.requires.there c.requires.trees in
    omega (arith, k.1, length-map trees (λ t. t.items))

pub loop-last-preserved : goal.loop-last-preserved
loop-last-preserved c =
    let trees = c.loop-last.trees.items in
    let old : List (List Node) = map (λ t. t.items) trees in
    let d : Done = c.in-Some.last in
    let left = c.pop.new.self.items in
    let k = placed_last c.args.task.now c.args.pieces.now c.args.done.items c.loop-last.rest.items left d old
    c.loop-last.invariant c.in-Some.ensures.items c.requires.there c.requires.trees in
    rw (c.set_tree.ensures, map-set) (placed_more c.args.task.now c.args.pieces.now c.args.done.items c.loop-last.rest.items left d old
    c.loop-last.invariant c.in-Some.ensures.items c.requires.apart k.0 k.2)

pub returns-clause-shape : goal.returns-clause-shape
returns-clause-shape c =
    let none : c.loop-last.rest.items ≡ [] = search rules in
    (placed_all c.args.task.now c.args.pieces.now c.args.done.items c.loop-last.rest.items (map (λ t. t.items) c.loop-last.trees.items) c.loop-last.invariant none).0

pub returns-clause-nodes : goal.returns-clause-nodes
returns-clause-nodes c =
    let none : c.loop-last.rest.items ≡ [] = search rules in
    (placed_all c.args.task.now c.args.pieces.now c.args.done.items c.loop-last.rest.items (map (λ t. t.items) c.loop-last.trees.items) c.loop-last.invariant none).1
