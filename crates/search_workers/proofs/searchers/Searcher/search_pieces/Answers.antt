use Rattle.std.proofs.Common.{rules, ap, ◌∙◌, ◌+◌, ◌<◌, length, arith}
use Rattle.incumbent_word.specs.declared.view.View.{View}
use Rattle.search_workers.proofs.PieceLemmas.{later, rises}
use Rattle.search_workers.proofs.searchers.Searcher.search_pieces.Goals as goal

pub loop-piece-preserved : goal.loop-piece-preserved
loop-piece-preserved g c =
    let e = c.in-Some.ensures in
    let s = c.in_ok-search_piece.ensures in
    let i = c.loop-piece.invariant in record {
      own = s.own;
      place = s.place;
      share = search rules;
      searcher = s.searcher;
      claims = s.claims;
      rising = rises c.loop-piece.self.seat.view.worker.pieces (length c.args.pieces.now) c.loop-piece._next i.rising c.in-Some.piece e.rising
          c.search_piece.new.self.seat.view.worker.pieces (c.from-next.result + 1) (search rules)
          (s.same ∙ ap (λ (v : View). v.worker.pieces) e.some.1) (ap (λ n. n + 1) c.from-next.ensures);
    }

pub loop-piece-smaller : goal.loop-piece-smaller
loop-piece-smaller g c =
    let e = c.in-Some.ensures in
    let i = c.loop-piece.invariant in
    let n = c.in-Some.piece in
    let below : n < length c.args.pieces.now = search rules in
    let l = later c.loop-piece.self.seat.view.worker.pieces (length c.args.pieces.now) c.loop-piece._next i.rising n e.rising in
    omega (arith, l, below, c.from-next.ensures)
