use Rattle.std.proofs.Common.{◌≡◌, ◌-◌, length}
use Rattle.incumbent_word.specs.Seats.{IsSeatOf}
use Rattle.search_workers.specs.Settings.{IsPlaceIn}
use Rattle.search_workers.specs.Searchers.{pieces_of, IsSearcher}
use Rattle.search_workers.proofs.PieceLemmas.{IsRising}
use Rattle.search_workers.proofs.searchers.Searcher.search_pieces.Given as goal

abbrev pub invariant-loop-piece : goal.invariant-loop-piece
invariant-loop-piece g l = record {
  own : IsSeatOf l.board l.self.seat;
  place : IsPlaceIn l.task l.place;
  share : l.self.seat.view.share ≡ l.initial.self.seat.view.share;
  searcher : IsSearcher l.task l.pieces l.self.seat.view l.self.cost l.self.best l.self.done.items;
  claims : l.self.seat.view.worker.pieces ≡ pieces_of l.self.done.items;
  rising : IsRising l.self.seat.view.worker.pieces (length l.pieces) l._next;
}

abbrev pub decreases-loop-piece : goal.decreases-loop-piece
decreases-loop-piece g l = length l.pieces - l._next
