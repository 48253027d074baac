use Rattle.std.proofs.Common.{rules, ◌≡◌, ◌∷◌, ◌∙◌, [], arith}
use Rattle.std.specs.Option.{option_map}
use Rattle.choice_problem.specs.declared.nodes.Node.TheVariants.{Undone}
use Rattle.choice_problem.specs.Bounds.{AreRanges, whole_of}
use Rattle.choice_problem.specs.Choices.{choice_cost}
use Rattle.search_workers.proofs.OutcomeLemmas.{nothing_visited, found_if_feasible}
use Rattle.search_workers.proofs.SizeLemmas.{some_choices, alts_of}
use Rattle.search_workers.proofs.searches.unvisited.Goals as goal

pub returns-clause-outcome : goal.returns-clause-outcome
returns-clause-outcome c =
    let p = c.args.problem.now in
    let best = c.args.best in
    let root = c.node_vector_exists.ensures p (whole_of p) in
    let tree : c.new-tree.result ≡ Undone ∷ [] = search rules in
    let vectors : c.new-vectors.result ≡ [] = c.new-vectors.ensures ∙ c.new.ensures.items in
    rw (tree, vectors) (nothing_visited p c.args._further.now best root.0 root.1 c.requires.greedy
    (λ h. c.driven_tree.ensures.sound p [] (option_map (choice_cost p) best) (Undone ∷ []) h) (found_if_feasible p best c.requires.feasible))

pub returns-clause-settled : goal.returns-clause-settled
returns-clause-settled c = λ few.
    let p = c.args.problem.now in
    let whole : AreRanges p (whole_of p) = rw c.in_ok-_whole.ensures.value at c.in_ok-_whole.ensures.there in
    let some = some_choices p.units (alts_of p whole) in absurd (omega (arith, some, few))
