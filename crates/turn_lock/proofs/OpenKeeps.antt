-- A new turn meets the rule, and what the rule says of the views of those that have the turn.
use Rattle.std.proofs.Common.{◌≡◌, ◌≢◌, ℕ, zero, suc, ◌+◌, ◌≤◌, cond, Bool, true, false, List, [], ◌∷◌, map, Option, Some, refl, ap, sym, subst, arith}
use Rattle.std.specs.List.{AllByRecursion}
use mathlib.Core.Option.{Option as Maybe, some, some-ne-none}
use lib.ListN.{get_elem?}
use Rattle.turn_lock.specs.declared.view.View.{View}
use Rattle.turn_lock.specs.Views.{newcomers, first_view}
use Rattle.turn_lock.specs.Rule.{Knows, ViewHolds, Stands, IsKept}
use Rattle.turn_lock.proofs.Sums.{part, two_parts}
use Rattle.turn_lock.proofs.Every.{all_snoc}
use Rattle.turn_lock.proofs.CallerLists.{newcomers_length, newcomers_once, newcomers_seen}

module _ {O E : Type 0} where
  abbrev pub holding : View O E → ℕ
  holding v = cond v.holds 1 0

  pub holding_one : (v : View O E) → v.holds ≡ true → holding v ≡ 1
  holding_one v e = ap (λ (b : Bool). cond {A = ℕ} b 1 0) e

  pub holding_none : (v : View O E) → v.holds ≡ false → holding v ≡ 0
  holding_none v e = ap (λ (b : Bool). cond {A = ℕ} b 1 0) e

pub true_not_false : ¬ (true ≡ false)
true_not_false e = cc

pub false_not_true : ¬ (false ≡ true)
false_not_true e = cc

module _ {T O E : Type 0} (origin : T → O) (entries : T → List E) (caller : E → ℕ) (start : T) (callers : ℕ) where
  none_seen : (k n : ℕ) → k + n ≤ callers → AllByRecursion (Knows caller [] callers) (newcomers k n)
  none_seen k zero below = tt
  none_seen k (suc n) below = (record { seen_is = ([], refl); own_is = refl; own_seen = refl; number_is = omega arith }, none_seen (suc k) n (omega arith))

  opens : entries start ≡ [] → 1 ≤ callers
      → Stands origin entries caller start callers 0 [] (some (Some start) ∷ []) (first_view (origin start) callers ∷ [])
  opens empty some_caller = record {
    entries_are = tt;
    turn_is = refl;
    one_holds = omega arith;
    each_number = λ n below. (let h = newcomers_once E 0 callers n (omega arith) (omega arith) in omega arith);
    all_callers = (let h = newcomers_length E 0 callers in omega arith);
    whole = (let h = newcomers_seen E 0 callers in omega arith);
    views_hold = all_snoc (ViewHolds caller [] (origin start) callers) [] (first_view (origin start) callers) (λ j v e. absurd (some-ne-none v (sym e)))
        (record { knows = none_seen 0 callers (omega arith); origin_is = λ _. refl; holds_is = λ e. absurd (false_not_true e) });
    at_home = λ _. (start, refl, empty, refl);
    out = λ e. absurd (omega arith);
  }

  pub begins : entries start ≡ [] → 1 ≤ callers → (xs : List (Option T)) → xs ≡ Some start ∷ []
      → IsKept origin entries caller start callers record { words = 0 ∷ 0 ∷ []; homes = map some xs; views = first_view (origin start) callers ∷ [] }
  begins empty some_caller xs is = record {
    turn = 0;
    history = [];
    words = refl;
    stands = subst (λ (ys : List (Option T)). Stands origin entries caller start callers 0 [] (map some ys) (first_view (origin start) callers ∷ [])) (sym is) (opens empty some_caller);
  }

  module _ (turn : ℕ) (history : List E) (homes : List (Maybe (Option T))) (vs : List (View O E)) (h : Stands origin entries caller start callers turn history homes vs) (id : ℕ) (v : View O E) (at : get_elem? vs id ≡ some v) where
    -- the turn is out where a seat has it
    pub held : v.holds ≡ true → turn ≡ 1
    held is = let one = holding_one v is in let p = part holding vs id v at in let t = h.turn_is in
        let l = h.one_holds in omega arith

    -- one seat alone has it
    pub no_other : v.holds ≡ true → (j : ℕ) (u : View O E) → j ≢ id → get_elem? vs j ≡ some u → u.holds ≡ true → ⊥
    no_other is j u other there too = let one = holding_one v is in let two = holding_one u too in
        let p = two_parts holding vs id j v u other at there in let t = h.turn_is in let l = h.one_holds in
        absurd (omega arith)
