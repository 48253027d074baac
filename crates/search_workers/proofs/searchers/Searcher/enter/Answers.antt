use Rattle.std.proofs.Common.{◌++◌, ◌∷◌, ◌+◌, ◌∙◌, [], ap, reverse, append_assoc}
use Rattle.std.specs.Prelude.{All}
use Rattle.choice_problem.specs.Bounds.{AreRanges}
use Rattle.choice_problem.specs.Trees.{node_count, parts_of}
use Rattle.search_workers.specs.Settings.{IsLook}
use Rattle.search_workers.specs.Searchers.{made}
use Rattle.search_workers.proofs.NodeLemmas.{node_count-append}
use Rattle.search_workers.proofs.EnterLemmas.{within, parts_valid, begun_node, entered}
use Rattle.search_workers.proofs.searchers.Searcher.enter.Goals as goal

pub returns-clause-work : goal.returns-clause-work
returns-clause-work c =
    let s = c.args.task.now in
    let me = c.args.self.now in
    let node = c.in_ok-node.node in
    let nodes = c.args.growth.now.nodes.items in
    let look : IsLook s c.args.ranges.now c.least-seen.result node c.in_ok-node.found = rw c.in_ok-go.ensures.ranges at c.in_ok-node.ensures in
    let k = entered s me.seat.view c.least-seen.new.self.view c.least-seen.result me.best (made me.done.items ++ nodes) c.requires.work c.least-seen.ensures.step
    c.args.ranges.now node me.cost c.keep_found.new.self.cost c.keep_found.new.self.best c.keep_found.new.self.seat.view c.requires.cost c.in_ok-node.found look
    (rw c.problem.ensures at c.keep_found.ensures.keeping) in
    rw (c.keep_found.ensures.done, c.in_ok-enter.ensures.nodes, ← append_assoc) k.0

pub returns-clause-cost : goal.returns-clause-cost
returns-clause-cost c =
    let s = c.args.task.now in
    let me = c.args.self.now in
    let node = c.in_ok-node.node in
    let nodes = c.args.growth.now.nodes.items in
    let look : IsLook s c.args.ranges.now c.least-seen.result node c.in_ok-node.found = rw c.in_ok-go.ensures.ranges at c.in_ok-node.ensures in
    let k = entered s me.seat.view c.least-seen.new.self.view c.least-seen.result me.best (made me.done.items ++ nodes) c.requires.work c.least-seen.ensures.step
    c.args.ranges.now node me.cost c.keep_found.new.self.cost c.keep_found.new.self.best c.keep_found.new.self.seat.view c.requires.cost c.in_ok-node.found look
    (rw c.problem.ensures at c.keep_found.ensures.keeping) in
    k.1

pub returns-clause-tree : goal.returns-clause-tree
returns-clause-tree c =
    let s = c.args.task.now in
    let root = c.args._root.now in
    let ranges = c.args.ranges.now in
    let node = c.in_ok-node.node in
    let nodes = c.args.growth.now.nodes.items in
    let pending = reverse c.args.growth.now.pending.items in
    let look : IsLook s ranges c.least-seen.result node c.in_ok-node.found = rw c.in_ok-go.ensures.ranges at c.in_ok-node.ensures in
    let here : AreRanges s.problem ranges = within s root ranges nodes pending c.requires.tree in
    let parts : All (AreRanges s.problem) (parts_of ranges node) = parts_valid s ranges node
    (λ u k h. c.part_ranges.ensures.low s.problem ranges u k here h) (λ u k h. c.part_ranges.ensures.high s.problem ranges u k here h) look.driven in
    rw (c.in_ok-enter.ensures.nodes, c.in_ok-enter.ensures.pending) (begun_node s root ranges nodes pending c.requires.tree node look.driven parts)

pub returns-clause-counted : goal.returns-clause-counted
returns-clause-counted c =
    let look : IsLook c.args.task.now c.args.ranges.now c.least-seen.result c.in_ok-node.node c.in_ok-node.found = rw c.in_ok-go.ensures.ranges at c.in_ok-node.ensures in
    rw c.in_ok-enter.ensures.nodes (node_count-append c.args.growth.now.nodes.items (c.in_ok-node.node ∷ [])
    ∙ ap (λ n. node_count c.args.growth.now.nodes.items + n) look.counted)
