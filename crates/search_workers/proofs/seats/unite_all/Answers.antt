use Rattle.std.proofs.Common.{◌∙◌, ◌∷◌, [], Some, ap, arith}
use Rattle.std.proofs.lemmas.List.Elements.{All-pop}
use Rattle.search_workers.specs.Rounds.{HasStopped, shares}
use Rattle.search_workers.proofs.RoundLemmas.{or_left}
use Rattle.search_workers.proofs.SeatLemmas.{finished_ready, shares-append}
use Rattle.search_workers.proofs.seats.unite_all.Goals as goal

pub loop-other-init : goal.loop-other-init
loop-other-init c =
    let s = c.args.task.now in
    let rest = c.pop.new.self.items in
    let all = c.in-Some.all in
    let items = c.in-Some.ensures.items in
    let both = All-pop (HasStopped s c.args.pieces.now c.args.board.now) c.args.searchers.items rest (Some all) items c.requires.finished in
    let k = finished_ready s c.args.pieces.now c.args.board.now all both.1 c.if-all.false in
    let e = ap shares items ∙ shares-append rest (all ∷ []) in
    record {
      ready = k.0;
      mark = k.1;
      finished = both.0;
      share = omega (arith, e);
    }

pub unite-requires-clause-second : goal.unite-requires-clause-second
unite-requires-clause-second c =
    let s = c.args.task.now in
    let rest = c.pop-in-loop-other.new.self.items in
    let other = c.in-Some-pop.other in
    let both = All-pop (HasStopped s c.args.pieces.now c.args.board.now) c.loop-other.rest.items rest (Some other) c.in-Some-pop.ensures.items c.loop-other.invariant.finished in
    (finished_ready s c.args.pieces.now c.args.board.now other both.1 c.if-other.false).0

pub loop-other-preserved : goal.loop-other-preserved
loop-other-preserved c =
    let s = c.args.task.now in
    let rest = c.pop-in-loop-other.new.self.items in
    let other = c.in-Some-pop.other in
    let items = c.in-Some-pop.ensures.items in
    let i = c.loop-other.invariant in
    let both = All-pop (HasStopped s c.args.pieces.now c.args.board.now) c.loop-other.rest.items rest (Some other) items i.finished in
    let e = ap shares items ∙ shares-append rest (other ∷ []) in
    let k = c.in_ok-unite.ensures in
    record {
      ready = k.ready;
      mark = k.mark ∙ or_left c.loop-other.all.seat.view.no_piece_left other.seat.view.no_piece_left i.mark;
      finished = both.0;
      share = omega (arith, e, k.share, i.share);
    }
