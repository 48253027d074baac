use Rattle.std.proofs.Common.{rules, ℕ, ◌≡◌, ◌≤◌, ◌∷◌, ◌∙◌, [], arith, None}
use Rattle.std.proofs.lemmas.List.Elements.{All-cons, All-nil}
use Rattle.choice_problem.specs.declared.nodes.Node.TheVariants.{Over}
use Rattle.choice_problem.specs.Bounds.{IsVector, whole_of}
use Rattle.choice_problem.specs.Driven.{IsDriven}
use Rattle.choice_problem.specs.Named.{NamesUpTo}
use Rattle.choice_problem.specs.Trees.{IsSound, node_count}
use Rattle.choice_problem.specs.Choices.{HasNone}
use Rattle.search_workers.specs.Outcomes.{IsSearched}
use Rattle.search_workers.proofs.JoinedLemmas.{named-none}
use Rattle.search_workers.proofs.OutcomeLemmas.{closed_driven, closed_whole, listed_none, whole_ends}
use Rattle.search_workers.proofs.searches.closed_at_once.Goals as goal

pub returns-clause-outcome : goal.returns-clause-outcome
returns-clause-outcome c =
    let p = c.args.problem.now in
    let start = c.args.start in
    let leaf = c.args.leaf in
    let given = c.args._further.now in
    let exists = c.node_vector_exists.ensures p (whole_of p) in
    let root = exists.0 in
    let k = c.requires.start in
    let closes = c.requires.closes root [] in
    let node = c.visited_nodes.ensures.closed p root [] (whole_of p) start.cost leaf closes in
    let none_law : (r : ℕ) → IsSound p [] None (whole_of p) (Over r ∷ []) → HasNone p = λ r h. c.sound_tree.ensures.none p [] (Over r ∷ []) (All-nil (IsVector p)) h tt in
    let d = closed_driven p start root leaf k closes node none_law exists.1 in
    let w = closed_whole p start root leaf k closes node none_law in
    let d0 : IsDriven p [] start.cost (leaf ∷ []) =
    c.fewer_vectors.ensures.driven p [] (root ∷ []) start.cost (leaf ∷ []) (All-cons (NamesUpTo 0) leaf [] c.requires.zero (All-nil (NamesUpTo 0))) d in
    let h : IsSearched p given [] start.cost start.best (leaf ∷ []) = record {
      found = k.found;
      driven = d0;
      sound = c.driven_tree.ensures.sound p [] start.cost (leaf ∷ []) d0;
      listed = listed_none p given;
    } in
    let tree : c.new-tree.result ≡ leaf ∷ [] = search rules in
    let vectors : c.new-vectors.result ≡ [] = c.new-vectors.ensures ∙ c.new.ensures.items in
    let few : node_count (leaf ∷ []) ≤ c.args._budget = omega (arith, w.1, c.requires.budget) in
    (whole_ends p given c.args._budget [] (leaf ∷ []) start.cost start.best c.settled.result h w.0 few (named-none p given c.args._budget root (leaf ∷ []) exists.1)
    (λ x f s. c.sound_tree.ensures.best p [] (leaf ∷ []) x (All-nil (IsVector p)) f s w.0)
    (λ s. c.sound_tree.ensures.none p [] (leaf ∷ []) (All-nil (IsVector p)) s w.0)
    (λ x n e f. rw (tree, vectors) at (c.settled.ensures.optimal x n e f))
    (λ e. rw (tree, vectors) at (c.settled.ensures.infeasible e))).0
