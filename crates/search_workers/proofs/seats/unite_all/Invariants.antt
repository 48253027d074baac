use Rattle.std.proofs.Common.{◌≡◌, ◌+◌, true, length}
use Rattle.std.specs.Prelude.{All}
use Rattle.search_workers.specs.Rounds.{IsReady, HasStopped, shares}
use Rattle.search_workers.proofs.seats.unite_all.Given as goal

abbrev pub invariant-loop-other : goal.invariant-loop-other
invariant-loop-other l = record {
  ready : IsReady l.task l.pieces l.board l.all;
  mark : l.all.seat.view.no_piece_left ≡ true;
  finished : All (HasStopped l.task l.pieces l.board) l.rest.items;
  share : l.all.seat.view.share + shares l.rest.items ≡ shares l.fn.searchers.items;
}

abbrev pub decreases-loop-other : goal.decreases-loop-other
decreases-loop-other l = length l.rest.items
