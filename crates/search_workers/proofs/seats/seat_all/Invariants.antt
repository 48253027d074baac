use Rattle.std.proofs.Common.{◌≡◌, ◌+◌, ◌-◌, ◌^◌, ◌≤◌, [], None}
use Rattle.std.specs.Prelude.{All}
use Rattle.incumbent_word.specs.Core.{newcomer}
use Rattle.incumbent_word.specs.Seats.{IsSeatOf}
use Rattle.search_workers.specs.Rounds.{IsReady, shares}
use Rattle.search_workers.proofs.seats.seat_all.Given as goal

abbrev pub invariant-loop-number : goal.invariant-loop-number
invariant-loop-number l = record {
  own : IsSeatOf l.board l.first.seat;
  worker : l.first.seat.view.worker ≡ newcomer l.board.terms.start;
  cost : l.first.cost ≡ None;
  best : l.first.best ≡ None;
  done : l.first.done.items ≡ [];
  room : 2 ^ (33 - l.number) ≤ l.first.seat.view.share;
  ready : All (IsReady l.task l._pieces l.board) l.all.items;
  share : l.first.seat.view.share + shares l.all.items ≡ 2 ^ 32;
}
