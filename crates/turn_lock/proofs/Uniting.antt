-- The seats of a turn that is closed, joined into one.
use Rattle.std.proofs.Common.{◌≡◌, ℕ, ◌<◌, Bool, false, ◌||◌, All, List, [], ◌∷◌, ◌++◌, map, length, Option, ap, sym, ◌∙◌, subst, append_assoc, arith}
use Rattle.std.specs.List.{AllByRecursion}
use mathlib.Core.List.{map-append}
use Rattle.atomic_table.specs.declared.shared.Seat.{Seat}
use Rattle.turn_lock.specs.declared.view.View.{View}
use Rattle.turn_lock.specs.Seats.{TurnView, SeatView, IsAtRest}
use Rattle.turn_lock.specs.Views.{united}
use Rattle.turn_lock.specs.Inside.{caller_of}
use Rattle.turn_lock.proofs.Every.{every_of_all, every_front, every_back}

-- while the seats are joined: those still to come, and the one that has all others
pub record Joining {T O E : Type 0} (turn : TurnView O) (all rest : List (SeatView O E)) (last : Seat (Option T) (View O E)) : Type 0 where
  pub same : last.table_id ≡ turn.id
  pub empty : last.me.1 ≡ []
  pub free : last.me.0.holds ≡ false
  pub some_caller : 0 < length last.me.0.callers
  pub callers : map caller_of rest ++ last.me.0.callers ≡ map caller_of all
  pub at_rest : AllByRecursion (IsAtRest turn) rest

-- what the seat of the table has of what contracts see
pub record IsOf {T O E : Type 0} (s : SeatView O E) (seat : Seat (Option T) (View O E)) : Type 0 where
  pub turn_is : seat.table_id ≡ s.turn
  pub holds_is : seat.me.0.holds ≡ s.holds
  pub empty : s.holds ≡ false → seat.me.1 ≡ []
  pub caller_is : seat.me.0.callers ≡ caller_of s ∷ []

module _ {T O E : Type 0} (turn : TurnView O) (all : List (SeatView O E)) where
  pub begins : (rest : List (SeatView O E)) (first : SeatView O E) (last : Seat (Option T) (View O E))
      → all ≡ rest ++ first ∷ [] → All (IsAtRest turn) all → IsOf first last → Joining turn all rest last
  begins rest first last is resting o = let every = subst (AllByRecursion (IsAtRest turn)) is (every_of_all (IsAtRest turn) all resting) in let mine = (every_back (IsAtRest turn) rest (first ∷ []) every).0 in record {
    same = o.turn_is ∙ mine.0.0;
    empty = o.empty mine.1;
    free = o.holds_is ∙ mine.1;
    some_caller = (let l : length last.me.0.callers ≡ length (caller_of first ∷ []) = ap length o.caller_is in
        omega arith);
    callers = ap (λ cs. map caller_of rest ++ cs) o.caller_is
        ∙ (sym (map-append caller_of rest (first ∷ [])) ∙ ap (map caller_of) (sym is));
    at_rest = every_front (IsAtRest turn) rest (first ∷ []) every;
  }

  pub goes_on : (before rest : List (SeatView O E)) (other : SeatView O E) (last seat next : Seat (Option T) (View O E)) → Joining turn all before last → before ≡ rest ++ other ∷ [] → IsOf other seat
      → next.table_id ≡ last.table_id → next.me ≡ (united last.me.0 seat.me.0, last.me.1)
      → Joining turn all rest next
  goes_on before rest other last seat next u is o same me = let every = subst (AllByRecursion (IsAtRest turn)) is u.at_rest in let mine = (every_back (IsAtRest turn) rest (other ∷ []) every).0 in
      let callers : next.me.0.callers ≡ (caller_of other ∷ []) ++ last.me.0.callers = ap (λ (m : View O E × List (ℕ × Option T)). m.0.callers) me ∙ ap (λ cs. cs ++ last.me.0.callers) o.caller_is in record {
        same = same ∙ u.same;
        empty = ap (λ (m : View O E × List (ℕ × Option T)). m.1) me ∙ u.empty;
        free = ap (λ (m : View O E × List (ℕ × Option T)). m.0.holds) me
            ∙ (ap (λ (b : Bool). b || seat.me.0.holds) u.free ∙ (o.holds_is ∙ mine.1));
        some_caller = (let l : length next.me.0.callers ≡ length ((caller_of other ∷ []) ++ last.me.0.callers) = ap length callers in omega arith);
        callers = ap (λ cs. map caller_of rest ++ cs) callers
            ∙ (sym (append_assoc (map caller_of rest) (caller_of other ∷ []) last.me.0.callers)
            ∙ (ap (λ cs. cs ++ last.me.0.callers) (sym (map-append caller_of rest (other ∷ [])) ∙ ap (map caller_of) (sym is)) ∙ u.callers));
        at_rest = every_front (IsAtRest turn) rest (other ∷ []) every;
      }

  pub rest_of_other : (before rest : List (SeatView O E)) (other : SeatView O E) (last : Seat (Option T) (View O E))
      → Joining turn all before last → before ≡ rest ++ other ∷ [] → IsAtRest turn other
  rest_of_other before rest other last u is = (every_back (IsAtRest turn) rest (other ∷ []) (subst (AllByRecursion (IsAtRest turn)) is u.at_rest)).0
