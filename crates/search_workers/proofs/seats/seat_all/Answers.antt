use Rattle.std.proofs.Common.{rules, ◌≡◌, ◌-◌, ◌/◌, ◌∙◌, ◌∷◌, ◌++◌, [], ap, arith}
use Rattle.std.proofs.lemmas.List.Elements.{All-push}
use Rattle.incumbent_word.specs.declared.view.View.{View}
use Rattle.incumbent_word.specs.declared.view.Worker.{Worker}
use Rattle.incumbent_word.specs.Core.{newcomer}
use Rattle.incumbent_word.specs.Seats.{SeatView, IsSeatOf}
use Rattle.search_workers.specs.declared.searchers.Searcher.{Searcher}
use Rattle.search_workers.specs.Rounds.{IsReady, shares}
use Rattle.search_workers.proofs.SeatLemmas.{ready_new, room_left, shares-append}
use Rattle.search_workers.proofs.seats.seat_all.Goals as goal

pub split-seat-requires-clause-share : goal.split-seat-requires-clause-share
split-seat-requires-clause-share c =
    (room_left c.loop-number.number c.loop-number.first.seat.view.share (omega (arith, c.loop-number-test.true, c.requires.workers.1)) c.loop-number.invariant.room).0

pub loop-number-preserved : goal.loop-number-preserved
loop-number-preserved c =
    let s = c.args.task.now in
    let i = c.loop-number.invariant in
    let first = c.loop-number.first in
    let n = c.loop-number.number in
    let e = c.split-seat.ensures in
    let w : Searcher = c.worker.result in
    let k = c.worker.ensures in
    let start = c.args.board.now.terms.start in
    let share : c.split-seat.new.self.view.share ≡ first.seat.view.share - first.seat.view.share / 2 = ap (λ (v : View). v.share) e.kept in
    let given : c.split-seat.result.view.share ≡ first.seat.view.share / 2 = ap (λ (v : View). v.share) e.given in
    let seated : w.seat.view.share ≡ c.split-seat.result.view.share = ap (λ (t : SeatView). t.view.share) k.seat in
    let worker : w.seat.view.worker ≡ newcomer start =
    ap (λ (t : SeatView). t.view.worker) k.seat ∙ (ap (λ (v : View). v.worker) e.given ∙ ap (λ (u : Worker). newcomer u.seen) i.worker) in
    let own : IsSeatOf c.args.board.now w.seat = rw k.seat e.own.1 in
    let ready : IsReady s c.args._pieces.now c.args.board.now w =
    ready_new s c.args._pieces.now c.args.board.now w own worker k.none.0 k.none.1 k.done c.requires.start in
    let pushed : c.push.new.self.items ≡ c.loop-number.all.items ++ w ∷ [] = search rules in
    let sum = ap shares pushed ∙ shares-append c.loop-number.all.items (w ∷ []) in
    record {
      own = e.own.0;
      worker = ap (λ (v : View). v.worker) e.kept ∙ i.worker;
      cost = i.cost;
      best = i.best;
      done = i.done;
      room = rw share (room_left n first.seat.view.share (omega (arith, c.loop-number-test.true, c.requires.workers.1)) i.room).1;
      ready = rw pushed (All-push (IsReady s c.args._pieces.now c.args.board.now) c.loop-number.all.items w i.ready ready);
      share = omega (arith, i.share, share, given, seated, sum);
    }

pub returns-clause-ready : goal.returns-clause-ready
returns-clause-ready c =
    let s = c.args.task.now in
    let i = c.loop-number.invariant in
    let first : Searcher = c.loop-number.first in
    let ready = ready_new s c.args._pieces.now c.args.board.now first i.own i.worker i.cost i.best i.done c.requires.start in
    let pushed : c.push-2.new.self.items ≡ c.loop-number.all.items ++ first ∷ [] = search rules in
    rw pushed (All-push (IsReady s c.args._pieces.now c.args.board.now) c.loop-number.all.items first i.ready ready)

pub returns-clause-shares : goal.returns-clause-shares
returns-clause-shares c =
    let i = c.loop-number.invariant in
    let first : Searcher = c.loop-number.first in
    let pushed : c.push-2.new.self.items ≡ c.loop-number.all.items ++ first ∷ [] = search rules in
    let sum = ap shares pushed ∙ shares-append c.loop-number.all.items (first ∷ []) in
    omega (arith, i.share, sum)
