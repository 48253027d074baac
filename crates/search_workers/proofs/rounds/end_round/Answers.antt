use Rattle.std.proofs.Common.{rules, ◌≡◌, ap, ◌∙◌, map}
use Rattle.incumbent_word.specs.Core.{lesser}
use Rattle.choice_problem.specs.Grafts.{graft}
use Rattle.search_workers.specs.Rounds.{AreApart}
use Rattle.search_workers.proofs.EndLemmas.{once_apart, round_ends}
use Rattle.search_workers.proofs.rounds.end_round.Goals as goal

pub trees_of-requires-clause-apart : goal.trees_of-requires-clause-apart
trees_of-requires-clause-apart c =
    let l = c.args.last in
    let e = c.close-end.ensures in
    let apart : AreApart l.seat.view.worker.pieces = once_apart l.seat.view.worker.pieces c.close-end.result.claimed e.pieces in
    rw c.requires.ready.claims at apart

pub returns : goal.returns
returns c =
    let s = c.args.state in
    let l = c.args.last in
    let e = c.close-end.ensures in
    let tree : c.in_ok-tree.tree.items ≡ graft s.tree.items (map (λ t. t.items) c.in_ok-trees.trees.items) = search rules in
    round_ends c.args.task.now c.args.pieces.now l.seat.view l.cost l.best l.done.items s.cost s.best c.cheaper-best.result s.tree.items c.in_ok-tree.tree.items
    (map (λ t. t.items) c.in_ok-trees.trees.items) c.requires.pieces.1.0 c.close-end.result.claimed c.close-end.result.taken c.args.board.terms.budget c.close-end.result.least
    c.requires.ready.searcher c.requires.ready.claims c.requires.so_far c.requires.pieces.1.1 c.requires.pieces.0 tree c.in_ok-trees.ensures.shape c.in_ok-trees.ensures.nodes
    c.cheaper-best.ensures (e.least ∙ ap (λ z. lesser z l.seat.view.worker.best) c.requires.terms.1) e.seen e.piece_count e.number_count
    (e.all_pieces c.requires.mark ∙ c.requires.terms.0) e.counts.1 e.all_numbers
