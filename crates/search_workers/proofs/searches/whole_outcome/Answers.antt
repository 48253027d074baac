use Rattle.std.proofs.Common.{rules, ◌≡◌, ◌∷◌, [], take, drop, sym, ◌⊎◌}
use Rattle.std.specs.Prelude.{All, Contains}
use Rattle.choice_problem.specs.declared.nodes.Node.{Node}
use Rattle.choice_problem.specs.Bounds.{whole_of}
use Rattle.choice_problem.specs.Named.{Names, NamesUpTo}
use Rattle.std.proofs.lemmas.List.{take-append-drop}
use Rattle.search_workers.specs.Outcomes.{AreNamedOf}
use Rattle.search_workers.proofs.FinishLemmas.{searched_named, named_there, cut_named}
use Rattle.search_workers.proofs.OutcomeLemmas.{whole_ends}
use Rattle.search_workers.proofs.searches.whole_outcome.Goals as goal

pub returns : goal.returns
returns c =
    let s = c.args.task.now in
    let given = c.args._given.now in
    let state = c.args.state in
    let tree = state.tree.items in
    let m = c.greatest_named-named.result in
    let r = c.requires in
    let names : All (NamesUpTo m) tree = search rules in
    let named : (m ≡ 0) ⊎ ((leaf : Node) × Contains tree leaf × Names m leaf) = search rules in
    let there = named_there s (whole_of s.problem ∷ []) tree m r.so_far.driven.trees named in
    let h = searched_named s state.cost state.best tree c.known.ensures r.so_far
    (λ vectors d. c.driven_tree.ensures.sound s.problem vectors state.cost tree d) given m r.given there names
    (λ vectors more n d. c.fewer_vectors.ensures.driven s.problem vectors more state.cost tree n d) in
    let cut : AreNamedOf s.problem given c.args._budget (take m s.vectors) tree = record {
      all = s.vectors;
      all_of = r.all;
      behind = drop m s.vectors;
      first = sym (take-append-drop m s.vectors);
      last = cut_named s.vectors tree m there named;
    } in
    whole_ends s.problem given c.args._budget (take m s.vectors) tree state.cost state.best c.settled.result h r.whole r.within cut
    (λ x f k. c.sound_tree.ensures.best s.problem (take m s.vectors) tree x h.listed.each f k r.whole)
    (λ k. c.sound_tree.ensures.none s.problem (take m s.vectors) tree h.listed.each k r.whole)
    (λ x n a b. rw (c.new.ensures, c.in_ok-vectors.ensures) at (c.settled.ensures.optimal x n a b))
    (λ a. rw (c.new.ensures, c.in_ok-vectors.ensures) at (c.settled.ensures.infeasible a))
