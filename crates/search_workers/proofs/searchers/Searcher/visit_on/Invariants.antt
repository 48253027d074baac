use Rattle.std.proofs.Common.{◌≡◌, ◌++◌, true, reverse}
use Rattle.incumbent_word.specs.Seats.{IsSeatOf}
use Rattle.search_workers.specs.Settings.{IsPlaceIn}
use Rattle.search_workers.specs.Work.{IsWork}
use Rattle.search_workers.specs.Searchers.{made, HasProgress, IsBegun}
use Rattle.search_workers.proofs.searchers.Searcher.visit_on.Given as goal

abbrev pub invariant-loop-visited : goal.invariant-loop-visited
invariant-loop-visited g l = record {
  own : IsSeatOf l.board l.self.seat;
  place : IsPlaceIn l.task l.place;
  share : l.self.seat.view.share ≡ l.initial.self.seat.view.share;
  done : l.self.done.items ≡ l.initial.self.done.items;
  pieces : l.self.seat.view.worker.pieces ≡ l.initial.self.seat.view.worker.pieces;
  work : IsWork l.task l.self.seat.view.worker l.self.best (made l.self.done.items ++ l.growth.nodes.items);
  cost : l.self.cost ≡ l.self.seat.view.worker.best;
  tree : IsBegun l.task l._root l.growth.nodes.items (reverse l.growth.pending.items);
  number_mark : l.initial.self.seat.view.no_number_left ≡ true → l.self.seat.view.no_number_left ≡ true;
  piece_mark : l.self.seat.view.no_piece_left ≡ l.initial.self.seat.view.no_piece_left;
  begun : HasProgress l.self.seat.view l.growth.nodes.items;
}
