use Rattle.std.proofs.Common.{rules, ◌≡◌, [], ◌∷◌, take}
use Rattle.std.specs.Prelude.{IsSome}
use Rattle.std.proofs.lemmas.List.Elements.{All-take, All-cons, All-nil}
use Rattle.choice_problem.specs.Bounds.{AreRanges, whole_of}
use Rattle.choice_problem.specs.Grafts.{open_ranges}
use Rattle.choice_problem.specs.Walks.{AreWalkable}
use Rattle.search_workers.specs.Settings.{Drives}
use Rattle.search_workers.proofs.GraftLemmas.{open_there, some_taken}
use Rattle.search_workers.proofs.OpenLemmas.{grown_walks, open_valid}
use Rattle.search_workers.proofs.rounds.first_open.Goals as goal

pub unreachable-requires : goal.unreachable-requires
unreachable-requires c =
    let s = c.args.task.now in
    let tree = c.args.state.now.tree.items in
    let walk : AreWalkable (c.in_ok-whole.whole ∷ []) tree =
    rw (c.in_ok-whole.ensures.value, c.problem.ensures) (grown_walks s (whole_of s.problem ∷ []) tree c.requires.so_far.driven.trees) in
    let some : IsSome c.in_ok-pieces.field-0 = search rules in
    absurd (cc (rw c.in-None.is at some))

pub returns-clause-some : goal.returns-clause-some
returns-clause-some c =
    let s = c.args.task.now in
    let tree = c.args.state.now.tree.items in
    let first : c.in-Some.pieces.items ≡ take c.args.most (open_ranges (whole_of s.problem ∷ []) tree) = search rules in
    rw first (some_taken c.args.most (open_ranges (whole_of s.problem ∷ []) tree) c.requires.some
    (open_there (λ ranges node. Drives s ranges node) (whole_of s.problem ∷ []) tree c.requires.so_far.driven.trees c.requires.open_node))

pub returns-clause-valid : goal.returns-clause-valid
returns-clause-valid c =
    let s = c.args.task.now in
    let tree = c.args.state.now.tree.items in
    let first : c.in-Some.pieces.items ≡ take c.args.most (open_ranges (whole_of s.problem ∷ []) tree) = search rules in
    let whole : AreRanges s.problem (whole_of s.problem) = search rules in
    rw first (All-take (AreRanges s.problem) c.args.most (open_ranges (whole_of s.problem ∷ []) tree)
    (open_valid s (λ ranges u k. c.part_ranges.ensures.low s.problem ranges u k) (λ ranges u k. c.part_ranges.ensures.high s.problem ranges u k)
    (whole_of s.problem ∷ []) tree c.requires.so_far.driven.trees
    (All-cons (AreRanges s.problem) (whole_of s.problem) [] whole (All-nil (AreRanges s.problem)))))
