use Rattle.std.proofs.Common.{◌≡◌, ◌∷◌, ◌++◌, ◌+◌, [], take}
use Rattle.choice_problem.specs.Bounds.{whole_of}
use Rattle.choice_problem.specs.Grafts.{graft, open_ranges, AreOn}
use Rattle.search_workers.specs.Settings.{Drives}
use Rattle.search_workers.specs.Work.{with_undone_parts}
use Rattle.search_workers.proofs.EndLemmas.{grafted_shape, grafted_made, part_visited}
use Rattle.search_workers.proofs.opening.part_visited.Goals as goal

pub returns-clause-visits : goal.returns-clause-visits
returns-clause-visits c =
    let s = c.args.task.now in
    let state = c.args.state.now in
    let before = state.tree.items in
    let node = c.in_ok-node.node in
    let found = c.in_ok-node.found in
    let pieces = c.in_ok-pieces.pieces.items in
    let after = c.in_ok-tree.tree.items in
    let made = with_undone_parts node ++ [] in
    let m = c.in_ok-part.part + 1 in
    let first : pieces ≡ take m (open_ranges (whole_of s.problem ∷ []) before) = c.in_ok-pieces.ensures.first in
    let t = c.in_ok-tree.ensures in
    let tree : after ≡ graft before t.0 = rw c.deref-2.ensures.value at t.1 in
    let on : AreOn (λ ranges node. Drives s ranges node) pieces t.0 = rw c.deref-3.ensures.value at t.2 in
    let shape = grafted_shape s pieces before after made t.0 m state.cost state.best c.requires.so_far first tree on t.3 in
    let all = grafted_made s pieces before after made t.0 m state.cost state.best c.requires.so_far first tree on t.3 in
    part_visited s c.go.new.self.walk.ranges state.cost state.best before after node found c.requires.so_far c.in_ok-node.ensures shape all
