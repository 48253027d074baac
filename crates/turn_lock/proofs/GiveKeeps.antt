-- The step that gives the turn back keeps the rule.
use Rattle.std.proofs.Common.{◌≡◌, ℕ, true, false, List, [], ◌∷◌, length, set, Option, Some, refl, ap, sym, ◌∙◌, subst, arith}
use Rattle.std.proofs.lemmas.Option.{same_Some}
use mathlib.Core.Option.{Option as Maybe, some, none}
use lib.ListN.{get_elem?}
use Rattle.atomic_table.specs.Table.{State, Me, step, gives, Allows, rest}
use Rattle.turn_lock.specs.declared.view.Caller.{Caller}
use Rattle.turn_lock.specs.declared.view.View.{View}
use Rattle.turn_lock.specs.Views.{number_count, seen_count}
use Rattle.turn_lock.specs.Rule.{ViewHolds, Stands, IsKept}
use Rattle.turn_lock.specs.Plays.{give_play}
use Rattle.turn_lock.proofs.Sums.{sum_put}
use Rattle.turn_lock.proofs.Every.{all_set}
use Rattle.turn_lock.proofs.OpenKeeps.{holding, holding_one, held, false_not_true}
use Rattle.turn_lock.proofs.WinKeeps.{Owes}
use Rattle.turn_lock.proofs.DecideKeeps.{has_seen_all}

module _ {T O E : Type 0} (origin : T → O) (entries : T → List E) (caller : E → ℕ) (start : T) (callers : ℕ) where
  gives_back : (turn : ℕ) (history : List E) (homes : List (Maybe (Option T))) (vs : List (View O E))
      → Stands origin entries caller start callers turn history homes vs → (id : ℕ) (v : View O E)
      → get_elem? vs id ≡ some v
      → v.holds ≡ true → (y : T) → entries y ≡ history → origin y ≡ origin start
      → Stands origin entries caller start callers 0 history (some (Some y) ∷ []) (set vs id record { origin = v.origin; callers = v.callers; holds = false })
  gives_back turn history homes vs h id v at is y same from = let w : View O E = record { origin = v.origin; callers = v.callers; holds = false } in let f = h.views_hold id v at in record {
    entries_are = h.entries_are;
    turn_is = (let s = sum_put holding vs id v w at in let t = h.turn_is in
        let o = held origin entries caller start callers turn history homes vs h id v at is in
        let one = holding_one v is in omega arith);
    one_holds = omega arith;
    each_number = λ n below. (let s = sum_put (λ u. number_count n u.callers) vs id v w at in
        let e = h.each_number n below in omega arith);
    all_callers = (let s = sum_put (λ u. length u.callers) vs id v w at in let e = h.all_callers in omega arith);
    whole = (let s = sum_put (λ u. seen_count (length history) u.callers) vs id v w at in let e = h.whole in
        omega arith);
    views_hold = all_set (ViewHolds caller history (origin start) callers) vs id w (λ j u _ there. h.views_hold j u there) (record { knows = f.knows; origin_is = f.origin_is; holds_is = λ e. absurd (false_not_true e) });
    at_home = λ _. (y, refl, same, from);
    out = λ e. absurd (omega arith);
  }

  module _ (id : ℕ) (me : Me (Option T) (View O E)) (p : Caller E) (alone : me.0.callers ≡ p ∷ []) (y : T) (slot : me.1 ≡ (0, Some y) ∷ []) (holds : me.0.holds ≡ true) where
    abbrev Rule : State (Option T) (View O E) → Type 0
    Rule = IsKept origin entries caller start callers

    abbrev then : ℕ → ℕ → Me (Option T) (View O E) → Type 0
    then slots = give_play (step slots 0 0 0 none) me

    pub given : (slots : ℕ) → entries y ≡ p.seen → me.0.origin ≡ Some (origin y)
        → Allows Rule slots id me 0 (λ _. 0) (then slots)
    given slots same from s k _ at _ = let h = k.stands in let f = h.views_hold id me.0 at in
        let some_caller = (f.holds_is holds).0 in
        let history : List E = k.history in
        let has : p.seen ≡ history = has_seen_all origin entries caller start callers id me p alone y slot holds history (f.holds_is holds).1 in
        let w : View O E = record { origin = me.0.origin; callers = me.0.callers; holds = false } in
        let born : origin y ≡ origin start = same_Some (origin y) (origin start) (sym from
        ∙ f.origin_is some_caller) in
        let empty : s.homes ≡ none ∷ [] = h.out (held origin entries caller start callers k.turn history s.homes s.views h id me.0 at holds) in
        let done : Owes Rule id s.views 0 (λ _. 0) (then slots) (k.turn ∷ length history ∷ []) (none ∷ []) ((0, Some y) ∷ [])
        = (w, gives, tt, record { turn = 0; history = history; words = refl; stands = gives_back k.turn history s.homes s.views h id me.0 at holds y (same ∙ has) born }, (ap rest (sym slot), refl)) in
        subst (λ (c : List (ℕ × Option T)). Owes Rule id s.views 0 (λ _. 0) (then slots) s.words s.homes c) (sym slot)
        (subst (λ (hs : List (Maybe (Option T))). Owes Rule id s.views 0 (λ _. 0) (then slots) s.words hs ((0, Some y) ∷ [])) (sym empty)
        (subst (λ (ws : List ℕ). Owes Rule id s.views 0 (λ _. 0) (then slots) ws (none ∷ []) ((0, Some y) ∷ [])) (sym k.words) done))
