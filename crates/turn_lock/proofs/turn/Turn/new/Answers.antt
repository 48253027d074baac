use Rattle.std.proofs.Common.{◌≡◌, ◌∙◌, ◌++◌, ◌∷◌, [], ℕ, ◌-◌, ◌<◌, Some, ap, subst, sym, arith}
use Rattle.turn_lock.proofs.OpenKeeps.{begins}
use Rattle.turn_lock.proofs.PartKeeps.{cuts}
use Rattle.turn_lock.proofs.NewSeats.{free, handed, still, left_over, is_new, sits, pushed, all_there, all_rest}
use Rattle.turn_lock.proofs.turn.Turn.new.Goals as goal

pub new-requires : goal.new-requires
new-requires g c = begins _ _ _ _ _ (ap g.T.Story.entries c.of.ensures ∙ c.requires.empty) c.requires.callers _
    (c.push_reserved.ensures.items
    ∙ (ap (λ l. l ++ Some c.args.value ∷ []) c.in_ok-slots.ensures.items
    ∙ ap (λ x. Some x ∷ []) (sym c.of.ensures)))

pub split_seat-seat-requires : goal.split_seat-seat-requires
split_seat-seat-requires g c = let h = c.loop-number.invariant in
    let more : c.loop-number.number < c.args.callers = omega arith in (
      h.same,
      (let words = c.in-Ok.ensures.ok.0 in omega arith),
      cuts _ _ _ _ _ _ c.loop-number.rest.me (free _ _ _ _ _ _ _ _ h more),
    )

pub invariant_of-push_reserved : goal.invariant_of-push_reserved
invariant_of-push_reserved g c = let h = c.loop-number.invariant in
    let more : c.loop-number.number < c.args.callers = omega arith in
    is_new g.T.Story.caller _ _ c.split_seat-seat.result (handed _ _ _ _ _ _ _ _ h more c.split_seat-seat.result c.split_seat-seat.ensures.4)

pub loop-number-preserved : goal.loop-number-preserved
loop-number-preserved g c = let h = c.loop-number.invariant in
    let more : c.loop-number.number < c.args.callers = omega arith in
    let p = c.push_reserved-in-loop-number.ensures in record {
      same = c.split_seat-seat.ensures.0 ∙ h.same;
      me = still _ _ _ _ _ _ _ _ h more c.split_seat-seat.new.seat c.split_seat-seat.ensures.2;
      made = pushed _ _ _ _ _ _ _ h.made (sits g.T.Story.caller _ _ c.split_seat-seat.result (handed _ _ _ _ _ _ _ _ h more c.split_seat-seat.result c.split_seat-seat.ensures.4) _ (c.split_seat-seat.ensures.3 ∙ h.same)) p.items (omega arith);
      many = (let m = h.many in let l = p.len in omega arith);
      fits = (let f = h.fits in let q = p.capacity in omega arith);
    }

pub invariant_of-push_reserved-2 : goal.invariant_of-push_reserved-2
invariant_of-push_reserved-2 g c = let h = c.loop-number.invariant in
    let more : c.loop-number.number < c.args.callers = omega arith in
    let is : c.loop-number.number ≡ c.args.callers - 1 = omega arith in
    is_new g.T.Story.caller _ _ c.loop-number.rest (left_over _ _ _ _ _ _ _ _ h more _ is (omega arith))

pub returns-clause-seats : goal.returns-clause-seats
returns-clause-seats g c = let h = c.loop-number.invariant in
    let more : c.loop-number.number < c.args.callers = omega arith in
    let is : c.loop-number.number ≡ c.args.callers - 1 = omega arith in
    let made = subst (λ (n : ℕ). c.loop-number.seats.items ≡ Rattle.turn_lock.specs.Seats.new_seats {E = g.row.T-Entry.Denot} c.in-Ok.made.0.shared.table_id (g.T.Story.origin c.args.value) 0 n) is h.made in
    pushed _ _ _ _ _ _ _ made (sits g.T.Story.caller _ _ c.loop-number.rest (left_over _ _ _ _ _ _ _ _ h more _ is (omega arith)) _ h.same) c.push_reserved-2.ensures.items (omega arith)

pub returns-clause-all : goal.returns-clause-all
returns-clause-all g c = all_there _ _ _ _ (returns-clause-seats g c)

pub returns-clause-rest : goal.returns-clause-rest
returns-clause-rest g c = let key = c.in-Ok.ensures.ok.5 in
    all_rest (record { id = c.in-Ok.made.0.shared.table_id; origin = g.T.Story.origin c.in-Ok.made.0.shared.key.value.value; callers = c.in-Ok.made.0.shared.key.callers }) _ _ _
    (ap (λ k. g.T.Story.origin k.value.value) key ∙ ap g.T.Story.origin c.of.ensures)
    (let is = ap (λ k. k.callers) key in omega (arith, is)) (returns-clause-seats g c)
