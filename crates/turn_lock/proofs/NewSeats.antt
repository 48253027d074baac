-- The seats of a new turn.
use Rattle.std.proofs.Common.{◌≡◌, ℕ, zero, suc, ◌+◌, ◌-◌, ◌<◌, ◌≤◌, false, All, List, [], ◌∷◌, ◌++◌, length, Option, Some, refl, ap, sym, ◌∙◌, subst, arith}
use Rattle.std.specs.List.{AllByRecursion}
use Rattle.atomic_table.specs.Table.{Me}
use Rattle.atomic_table.specs.Seated.{TableId}
use Rattle.atomic_table.specs.declared.shared.Seat.{Seat}
use Rattle.turn_lock.specs.declared.view.Caller.{Caller}
use Rattle.turn_lock.specs.declared.view.View.{View}
use Rattle.turn_lock.specs.Seats.{TurnView, SeatView, IsAtRest, new_seat, new_seats}
use Rattle.turn_lock.specs.Views.{newcomer, newcomers, first_of, others_of, all_but_first, first_alone}
use Rattle.turn_lock.specs.Inside.{IsSeat, seen_of, own_of}
use Rattle.turn_lock.proofs.Every.{all_of_every}
use Rattle.turn_lock.proofs.OpenKeeps.{true_not_false}

-- a seat of the table that has seen nothing and carries no slot
abbrev new_me : {T O E : Type 0} → O → List (Caller E) → Me (Option T) (View O E)
new_me o cs = (record { origin = Some o; callers = cs; holds = false }, [])

-- The first seats are made, and the rest has the callers from `number` on
pub record Seating {T O E : Type 0} (id : TableId) (o : O) (callers number : ℕ) (seats : List (SeatView O E)) (len room : ℕ) (rest : Seat (Option T) (View O E)) : Type 0 where
  pub same : rest.table_id ≡ id
  pub me : rest.me ≡ new_me o (newcomers number (callers - number))
  pub made : seats ≡ new_seats id o 0 number
  pub many : len ≡ number
  pub fits : callers ≤ room

module _ {O E : Type 0} where
  pub one_more : (id : TableId) (o : O) (k n : ℕ)
      → new_seats {O = O} {E = E} id o k (suc n) ≡ new_seats id o k n ++ new_seat id o (k + n) ∷ []
  one_more id o k zero = ap (λ (m : ℕ). new_seat id o m ∷ []) (omega arith)
  one_more id o k (suc n) = ap (λ (ss : List (SeatView O E)). new_seat id o k ∷ ss) (one_more id o (suc k) n
      ∙ ap (λ (m : ℕ). new_seats id o (suc k) n ++ new_seat id o m ∷ []) (omega arith))

first_new : (E : Type 0) (k n m : ℕ) → m ≡ suc n
    → first_of (newcomers {E = E} k m) ≡ newcomer k ∷ []
first_new E k n m is = ap (λ (z : ℕ). first_of (newcomers {E = E} k z)) is

others_new : (E : Type 0) (k k' n m : ℕ) → m ≡ suc n → k' ≡ suc k
    → others_of (newcomers {E = E} k m) ≡ newcomers k' n
others_new E k k' n m is next = ap (λ (z : ℕ). others_of (newcomers {E = E} k z)) is
    ∙ ap (λ (z : ℕ). newcomers {E = E} z n) (sym next)

module _ {T O E : Type 0} (id : TableId) (o : O) (callers number : ℕ) (seats : List (SeatView O E)) (len room : ℕ) (rest : Seat (Option T) (View O E)) (h : Seating id o callers number seats len room rest) (more : number < callers) where
  last_but : callers - number ≡ suc (callers - (number + 1))
  last_but = omega arith

  pub free : rest.me.0.holds ≡ false
  free = ap (λ (m : View O E × List (ℕ × Option T)). m.0.holds) h.me

  pub handed : (seat : Seat (Option T) (View O E)) → seat.me ≡ (first_alone rest.me.0, [])
      → seat.me ≡ new_me o (newcomer number ∷ [])
  handed seat is = is ∙ (ap (λ (m : View O E × List (ℕ × Option T)). (first_alone m.0, [])) h.me
      ∙ ap (λ (cs : List (Caller E)). new_me o cs) (first_new E number (callers - (number + 1)) (callers - number) last_but))

  pub still : (next : Seat (Option T) (View O E)) → next.me ≡ (all_but_first rest.me.0, rest.me.1)
      → next.me ≡ new_me o (newcomers (number + 1) (callers - (number + 1)))
  still next is = is ∙ (ap (λ (m : View O E × List (ℕ × Option T)). (all_but_first m.0, m.1)) h.me
      ∙ ap (λ (cs : List (Caller E)). new_me o cs) (others_new E number (number + 1) (callers - (number + 1)) (callers - number) last_but (omega arith)))

  pub left_over : (last : ℕ) → number ≡ last → callers ≡ number + 1
      → rest.me ≡ new_me o (newcomer last ∷ [])
  left_over last is end = h.me
      ∙ (ap (λ (n : ℕ). new_me o (newcomers number n)) (let e : callers - number ≡ suc 0 = omega arith in e)
      ∙ ap (λ (n : ℕ). new_me o (newcomer n ∷ [])) is)

module _ {T O E : Type 0} (caller : E → ℕ) (o : O) (number : ℕ) (seat : Seat (Option T) (View O E))
    (is : seat.me ≡ new_me o (newcomer number ∷ [])) where
  pub is_new : IsSeat caller number 0 seat.me
  is_new = record {
    one = newcomer number;
    alone = ap (λ (m : View O E × List (ℕ × Option T)). m.0.callers) is;
    number_is = refl;
    own_is = refl;
    at_rest = λ _. ap (λ (m : View O E × List (ℕ × Option T)). m.1) is;
    at_work = λ e. absurd (true_not_false (sym e ∙ ap (λ (m : View O E × List (ℕ × Option T)). m.0.holds) is));
  }

  pub sits : (id : TableId) → seat.table_id ≡ id
      → record { turn = seat.table_id; origin = seat.me.0.origin; number = number; seen = seen_of seat.me.0.callers; own = own_of seat.me.0.callers; holds = seat.me.0.holds } ≡ new_seat {O = O} {E = E} id o number
  sits id same = ap (λ (t : TableId). record { turn = t; origin = seat.me.0.origin; number = number; seen = seen_of seat.me.0.callers; own = own_of seat.me.0.callers; holds = seat.me.0.holds }) same
      ∙ ap (λ (m : View O E × List (ℕ × Option T)). record { turn = id; origin = m.0.origin; number = number; seen = seen_of m.0.callers; own = own_of m.0.callers; holds = m.0.holds }) is

pub pushed : {O E : Type 0} (id : TableId) (o : O) (k m : ℕ) (before after : List (SeatView O E)) (s : SeatView O E)
    → before ≡ new_seats id o 0 k → s ≡ new_seat id o k → after ≡ before ++ s ∷ [] → m ≡ suc k
    → after ≡ new_seats id o 0 m
pushed {O = O} {E = E} id o k m before after s is new now next = now
    ∙ (ap (λ (l : List (SeatView O E)). l ++ s ∷ []) is
    ∙ (ap (λ (x : SeatView O E). new_seats id o 0 k ++ x ∷ []) new
    ∙ (ap (λ (z : ℕ). new_seats id o 0 k ++ new_seat id o z ∷ []) (let e : k ≡ 0 + k = omega arith in e)
    ∙ (sym (one_more id o 0 k) ∙ ap (new_seats id o 0) (sym next)))))

all_new : {O : Type 0} (E : Type 0) (turn : TurnView O) (k n : ℕ) → k + n ≤ turn.callers
    → AllByRecursion (IsAtRest turn) (new_seats {O = O} {E = E} turn.id turn.origin k n)
all_new E turn k zero few = tt
all_new E turn k (suc n) few = (
  ((refl, refl, omega (arith, few)), refl),
  all_new E turn (suc k) n (omega (arith, few)),
)

as_many : {O : Type 0} (E : Type 0) (id : TableId) (o : O) (k n : ℕ)
    → length (new_seats {O = O} {E = E} id o k n) ≡ n
as_many E id o k zero = refl
as_many E id o k (suc n) = ap suc (as_many E id o (suc k) n)

pub all_there : {O E : Type 0} (id : TableId) (o : O) (n : ℕ) (seats : List (SeatView O E))
    → seats ≡ new_seats id o 0 n
    → length seats ≡ n
all_there {E = E} id o n seats is = ap length is ∙ as_many E id o 0 n

pub all_rest : {O E : Type 0} (turn : TurnView O) (o : O) (n : ℕ) (seats : List (SeatView O E)) → turn.origin ≡ o
    → n ≤ turn.callers → seats ≡ new_seats turn.id o 0 n → All (IsAtRest turn) seats
all_rest {O = O} {E = E} turn o n seats same few is =
    let made : seats ≡ new_seats turn.id turn.origin 0 n = is
    ∙ ap (λ (p : O). new_seats turn.id p 0 n) (sym same) in
    all_of_every (IsAtRest turn) seats (subst (AllByRecursion (IsAtRest turn)) (sym made) (all_new E turn 0 n (omega (arith, few))))
