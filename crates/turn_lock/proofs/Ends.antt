-- What the last seat, which has all callers, knows of the last state of the turn.
use Rattle.std.proofs.Common.{◌≡◌, ◌≢◌, ℕ, suc, ◌<◌, ◌≤◌, Bool, true, false, All, List, [], ◌∷◌, map, length, Option, Some, refl, ap, sym, ◌∙◌, subst, arith}
use Rattle.std.specs.List.{AllByRecursion, Any, sum_by, count_by}
use mathlib.Core.Logic.{dite}
use mathlib.Core.Option.{Option as Maybe, some, some-injective}
use native.Mathlib.Decide.{ℕ_discrete}
use lib.ListN.{get_elem?}
use Rattle.atomic_table.specs.Table.{Final, Seen}
use Rattle.turn_lock.specs.declared.view.Caller.{Caller}
use Rattle.turn_lock.specs.declared.view.View.{View}
use Rattle.turn_lock.specs.Seats.{SeatView, HasSeen, IsNumber}
use Rattle.turn_lock.specs.Views.{number_count, seen_count}
use Rattle.turn_lock.specs.Rule.{Knows, IsKept}
use Rattle.turn_lock.specs.Inside.{caller_of}
use Rattle.turn_lock.proofs.HistoryLemmas.{whole_beginning}
use Rattle.turn_lock.proofs.Sums.{two_parts, only_part}
use Rattle.turn_lock.proofs.Every.{all_of_every, every_as, every_unmap, any_first, any_later}
use Rattle.turn_lock.proofs.CallerLists.{is_number_other, has_seen_other, number_count_cons, seen_count_cons, number_count_le, seen_count_le}
use Rattle.turn_lock.proofs.OpenKeeps.{holding, holding_none}

not_holding : {O E : Type 0} (v : View O E) → ¬ (v.holds ≡ true) → holding v ≡ 0
not_holding v never = by_cases v.holds refl
  where
    by_cases : (b : Bool) → v.holds ≡ b → holding v ≡ 0
    by_cases true e = absurd (never e)
    by_cases false e = holding_none v e

module _ {T O E : Type 0} (origin : T → O) (entries : T → List E) (caller : E → ℕ) (start : T) (callers : ℕ) where
  -- the value y is the last one, and v is the view of the one seat that is left
  pub record Left (y : T) (v : View O E) : Type 0 where
    pub origin_is : origin y ≡ origin start
    pub knows : AllByRecursion (Knows caller (entries y) callers) v.callers
    pub below : AllByRecursion (λ e. caller e < callers) (entries y)
    pub each : (n : ℕ) → n < callers → number_count n v.callers ≡ 1
    pub whole : 0 < seen_count (length (entries y)) v.callers

  -- the value lies in the slot
  pub record Ended (xs : List (Option T)) (v : View O E) : Type 0 where
    pub value : T
    pub slot : get_elem? xs 0 ≡ some (Some value)
    pub left : Left value v

  pub ends : (id : ℕ) (v : View O E) (ws : List ℕ) (xs : List (Option T))
      → Final (Seen (IsKept origin entries caller start callers) id v) ws xs → v.holds ≡ false
      → length v.callers ≡ callers → Ended xs v
  ends id v ws xs (s, (k, at), words, long, filled) free all = let h = k.stands in
      let alone : (j : ℕ) (u : View O E) → j ≢ id → get_elem? s.views j ≡ some u → length u.callers ≡ 0
      = λ j u other there. (let p = two_parts (λ (z : View O E). length z.callers) s.views id j v u other at there in let t = h.all_callers in omega arith) in
      let nobody : count_by (λ (z : View O E). z.holds) s.views ≡ holding v = only_part holding s.views id v at
      (λ j u other there. not_holding u (λ e. (let l = alone j u other there in let q = ((h.views_hold j u there).holds_is e).0 in absurd (omega arith)))) in
      let turn : k.turn ≡ 0 = h.turn_is ∙ (nobody ∙ holding_none v free) in
      let home = h.at_home turn in let same : entries home.0 ≡ k.history = home.2 in
      let seen : sum_by (λ (z : View O E). seen_count (length k.history) z.callers) s.views ≡ seen_count (length k.history) v.callers
      = only_part (λ (z : View O E). seen_count (length k.history) z.callers) s.views id v at (λ j u other there. (let l = alone j u other there in let m = seen_count_le (length k.history) u.callers in omega arith)) in record {
        value = home.0;
        slot = filled 0 (Some home.0) (ap (λ (hs : List (Maybe (Option T))). get_elem? hs 0) home.1);
        left = record {
          origin_is = home.3;
          knows = subst (λ (l : List E). AllByRecursion (Knows caller l callers) v.callers) (sym same) (h.views_hold id v at).knows;
          below = subst (AllByRecursion (λ e. caller e < callers)) (sym same) h.entries_are;
          each = λ n less. sym (only_part (λ (z : View O E). number_count n z.callers) s.views id v at (λ j u other there. (let l = alone j u other there in let m = number_count_le n u.callers in omega arith))) ∙ h.each_number n less;
          whole = subst (λ (l : List E). 0 < seen_count (length l) v.callers) (sym same) (let w = h.whole in
              omega arith);
        };
      }

  pub there_is : (xs : List (Option T)) (v : View O E) (found : Option T) → Ended xs v → get_elem? xs 0 ≡ some found
      → (y : T) × (found ≡ Some y) × Left y v
  there_is xs v found e there = (e.value, some-injective found (Some e.value) (sym there ∙ e.slot), e.left)

  pub left_as : (v : View O E) (y z : T) → y ≡ z → Left y v → Left z v
  left_as v y z same l = subst (λ (x : T). Left x v) same l

module _ {O E : Type 0} (caller : E → ℕ) (callers : ℕ) where
  pub all_seen : (history : List E) (ss : List (SeatView O E)) (cs : List (Caller E)) → cs ≡ map caller_of ss
      → AllByRecursion (Knows caller history callers) cs → All (HasSeen caller history) ss
  all_seen history ss cs is h = all_of_every (HasSeen caller history) ss (every_as (λ s. Knows caller history callers (caller_of s)) (HasSeen caller history) ss (λ s k. (k.seen_is, k.own_is))
      (every_unmap (Knows caller history callers) caller_of ss (subst (AllByRecursion (Knows caller history callers)) is h)))

  is_there : (ss : List (SeatView O E)) (n : ℕ) → 1 ≤ number_count n (map caller_of ss) → IsNumber ss n
  is_there [] n some_one = absurd (omega arith)
  is_there (s ∷ ss) n some_one = let all = number_count_cons n (caller_of s) (map caller_of ss) in
      dite (ℕ_discrete s.number n)
      (λ e. any_first (λ z. z.number ≡ n) s ss e)
      (λ other. any_later (λ z. z.number ≡ n) s ss (is_there ss n (let e = is_number_other n (caller_of s) other in omega arith)))

  pub all_numbers : (history : List E) (ss : List (SeatView O E)) (cs : List (Caller E)) → cs ≡ map caller_of ss
      → AllByRecursion (λ e. caller e < callers) history → ((n : ℕ) → n < callers → number_count n cs ≡ 1)
      → All (λ e. IsNumber ss (caller e)) history
  all_numbers history ss cs is below each = all_of_every (λ e. IsNumber ss (caller e)) history (every_as (λ e. caller e < callers) (λ e. IsNumber ss (caller e)) history
      (λ e less. is_there ss (caller e) (let one : number_count (caller e) (map caller_of ss) ≡ 1 = ap (number_count (caller e)) (sym is) ∙ each (caller e) less in omega arith)) below)

  -- a caller that has seen so many entries has seen the whole history
  has_seen_whole : (history : List E) (ss : List (SeatView O E)) → AllByRecursion (HasSeen caller history) ss
      → 0 < seen_count (length history) (map caller_of ss) → Any (λ s. s.seen ≡ history) ss
  has_seen_whole history [] h some_one = absurd (omega arith)
  has_seen_whole history (s ∷ ss) h some_one = let all = seen_count_cons (length history) (caller_of s) (map caller_of ss) in dite (ℕ_discrete (length s.seen) (length history))
      (λ e. any_first (λ z. z.seen ≡ history) s ss (whole_beginning history s.seen h.0.0 e))
      (λ other. any_later (λ z. z.seen ≡ history) s ss (has_seen_whole history ss h.1 (let e = has_seen_other (length history) (caller_of s) other in omega arith)))

  pub some_whole : (history : List E) (ss : List (SeatView O E)) (cs : List (Caller E)) → cs ≡ map caller_of ss
      → AllByRecursion (Knows caller history callers) cs → 0 < seen_count (length history) cs
      → Any (λ s. s.seen ≡ history) ss
  some_whole history ss cs is h some_one = has_seen_whole history ss
      (every_as (λ s. Knows caller history callers (caller_of s)) (HasSeen caller history) ss (λ s k. (k.seen_is, k.own_is)) (every_unmap (Knows caller history callers) caller_of ss (subst (AllByRecursion (Knows caller history callers)) is h)))
      (subst (λ l. 0 < seen_count (length history) l) is some_one)

  pub as_many : (ss : List (SeatView O E)) → length (map caller_of ss) ≡ length ss
  as_many [] = refl
  as_many (s ∷ ss) = ap suc (as_many ss)
