-- The step that tries to take the turn keeps the rule.
use Rattle.std.proofs.Common.{◌≡◌, ℕ, ◌<◌, eqb, true, List, [], ◌∷◌, map, length, get_or, set, Option, Some, refl, ap, sym, ◌∙◌, subst, arith}
use mathlib.Core.Logic.{dite}
use mathlib.Core.Option.{Option as Maybe, some, none}
use native.Mathlib.Decide.{ℕ_discrete}
use lib.ListN.{get_elem?}
use prog.Atomic.{either}
use Rattle.atomic_table.specs.Table.{State, Me, step, Act, keeps, takes, Valid, homes_after, carried_after, Allows}
use Rattle.turn_lock.proofs.Places as places
use Rattle.turn_lock.specs.declared.view.Caller.{Caller}
use Rattle.turn_lock.specs.declared.view.View.{View}
use Rattle.turn_lock.specs.History.{StartsWith, own}
use Rattle.turn_lock.specs.Views.{after_seeing, number_count, seen_count}
use Rattle.turn_lock.specs.Rule.{Knows, ViewHolds, Stands, IsKept}
use Rattle.turn_lock.specs.Plays.{Won, win_play}
use Rattle.turn_lock.proofs.HistoryLemmas.{starts_with_itself}
use Rattle.turn_lock.proofs.Sums.{sum_put, part}
use Rattle.turn_lock.proofs.Every.{every_map, every_as, all_set}
use Rattle.turn_lock.proofs.CallerLists.{number_count_map, seen_count_map, length_map}
use Rattle.turn_lock.proofs.OpenKeeps.{holding}

-- a caller that has seen all knows what is true
pub seeing_knows : {E : Type 0} (caller : E → ℕ) (history : List E) (callers : ℕ) (c : Caller E)
    → c.number < callers → Knows caller history callers (after_seeing caller history c)
seeing_knows caller history callers c below = record { seen_is = starts_with_itself history; own_is = refl; own_seen = refl; number_is = below }

-- what a seat owes at a step that makes f of the word i, where the words are ws, the slots hs, and its own slots c
abbrev pub Owes : {T O E : Type 0} → (State (Option T) (View O E) → Type 0) → ℕ → List (View O E) → ℕ → (ℕ → ℕ)
    → (ℕ → Me (Option T) (View O E) → Type 0) → List ℕ → List (Maybe (Option T)) → List (ℕ × Option T) → Type 0
Owes {T} {O} {E} Rule id vs i f then ws hs c =
    (w : View O E) × (act : Act (Option T)) × Valid hs c act
    × Rule record { words = set ws i (f (get_or ws i 0)); homes = homes_after hs c act; views = set vs id w }
    × then (get_or ws i 0) (w, carried_after c act)

module _ {T O E : Type 0} (origin : T → O) (entries : T → List E) (caller : E → ℕ) (start : T) (callers : ℕ) where
  wins : (turn : ℕ) (history : List E) (homes : List (Maybe (Option T))) (vs : List (View O E))
      → Stands origin entries caller start callers turn history homes vs → (id : ℕ) (v : View O E)
      → get_elem? vs id ≡ some v
      → turn ≡ 0 → 0 < length v.callers
      → Stands origin entries caller start callers 1 history (none ∷ []) (set vs id record { origin = v.origin; callers = map (after_seeing caller history) v.callers; holds = true })
  wins turn history homes vs h id v at free some_caller = let w : View O E = record { origin = v.origin; callers = map (after_seeing caller history) v.callers; holds = true } in let f = h.views_hold id v at in
      let long = length_map caller history v.callers in record {
        entries_are = h.entries_are;
        turn_is = (let s = sum_put holding vs id v w at in let p = part holding vs id v at in let t = h.turn_is in
            omega arith);
        one_holds = omega arith;
        each_number = λ n below. (let s = sum_put (λ u. number_count n u.callers) vs id v w at in
            let m = number_count_map caller history n v.callers in let e = h.each_number n below in omega arith);
        all_callers = (let s = sum_put (λ u. length u.callers) vs id v w at in let e = h.all_callers in
            omega arith);
        whole = (let s = sum_put (λ u. seen_count (length history) u.callers) vs id v w at in
            let p = part (λ u. seen_count (length history) u.callers) vs id v at in
            let m = seen_count_map caller history v.callers in omega arith);
        views_hold = all_set (ViewHolds caller history (origin start) callers) vs id w (λ j u _ there. h.views_hold j u there) (record {
          knows = every_map (Knows caller history callers) (Knows caller history callers) (after_seeing caller history) v.callers (λ c k. seeing_knows caller history callers c k.number_is) f.knows;
          origin_is = λ _. f.origin_is some_caller;
          holds_is = λ _. (omega arith, every_map (Knows caller history callers) (λ c. c.seen ≡ history) (after_seeing caller history) v.callers (λ c k. refl) f.knows);
        });
        at_home = λ e. absurd (omega arith);
        out = λ _. refl;
      }

  module _ (id : ℕ) (me : Me (Option T) (View O E)) where
    abbrev Rule : State (Option T) (View O E) → Type 0
    Rule = IsKept origin entries caller start callers

    abbrev found : ℕ → ℕ
    found n = either (eqb n 0) 1 n

    abbrev then : ℕ → ℕ → Me (Option T) (View O E) → Type 0
    then slots = win_play origin entries caller (step slots 0 0 1 none) me

    free_turn : (slots : ℕ) (s : State (Option T) (View O E)) → (k : Rule s) → get_elem? s.views id ≡ some me.0
        → 0 < length me.0.callers → k.turn ≡ 0 → Owes Rule id s.views 0 found (then slots) s.words s.homes me.1
    free_turn slots s k at some_caller free = let h = k.stands in let f = h.views_hold id me.0 at in
        let home = h.at_home free in let y : T = home.0 in let same : entries y ≡ k.history = home.2 in
        let w : View O E = record { origin = me.0.origin; callers = map (after_seeing caller k.history) me.0.callers; holds = true } in
        let won : Won origin entries caller me (w, (0, Some y) ∷ me.1) = record {
          value = y;
          slot = refl;
          origin_is = f.origin_is some_caller ∙ ap (λ (o : O). Some o) (sym home.3);
          view = ap (λ (l : List E). record { origin = me.0.origin; callers = map (after_seeing caller l) me.0.callers; holds = true }) (sym same);
          longer = every_as (Knows caller k.history callers) (λ c. StartsWith (entries y) c.seen
              × (own caller c.number (entries y) ≡ c.own)) me.0.callers
              (λ c q. (subst (λ (l : List E). StartsWith l c.seen) (sym same) q.seen_is, ap (own caller c.number) same ∙ sym q.own_is)) f.knows;
        } in
        let done : Owes Rule id s.views 0 found (then slots) (0 ∷ length k.history ∷ []) (some (Some y) ∷ []) me.1 = (
          w,
          takes 0 (Some y),
          refl,
          record { turn = 1; history = k.history; words = refl; stands = wins k.turn k.history s.homes s.views h id me.0 at free some_caller },
          ((λ _. won), λ other. absurd (other refl)),
        ) in
        subst (λ (hs : List (Maybe (Option T))). Owes Rule id s.views 0 found (then slots) s.words hs me.1) (sym home.1)
        (subst (λ (ws : List ℕ). Owes Rule id s.views 0 found (then slots) ws (some (Some y) ∷ []) me.1) (sym (k.words ∙ ap (λ (z : ℕ). z ∷ length k.history ∷ []) free)) done)

    taken_turn : (slots : ℕ) (s : State (Option T) (View O E)) → (k : Rule s) → get_elem? s.views id ≡ some me.0
        → k.turn ≡ 1 → Owes Rule id s.views 0 found (then slots) s.words s.homes me.1
    taken_turn slots s k at one = let h = k.stands in let words : s.words ≡ 1 ∷ length k.history ∷ [] = k.words
        ∙ ap (λ (z : ℕ). z ∷ length k.history ∷ []) one in
        let stays : Stands origin entries caller start callers 1 k.history s.homes (set s.views id me.0)
        = subst (λ (vs : List (View O E)). Stands origin entries caller start callers 1 k.history s.homes vs) (sym (places.set_again s.views id me.0 at)) (subst (λ (z : ℕ). Stands origin entries caller start callers z k.history s.homes s.views) one h) in
        let done : Owes Rule id s.views 0 found (then slots) (1 ∷ length k.history ∷ []) s.homes me.1
        = (me.0, keeps, tt, record { turn = 1; history = k.history; words = refl; stands = stays }, ((λ none_has. absurd (omega arith)), λ other. refl)) in
        subst (λ (ws : List ℕ). Owes Rule id s.views 0 found (then slots) ws s.homes me.1) (sym words) done

    pub tries : (slots : ℕ) → 0 < length me.0.callers → Allows Rule slots id me 0 found (then slots)
    tries slots some_caller s k _ at _ = dite (ℕ_discrete k.turn 0) (λ free. free_turn slots s k at some_caller free) (λ taken. taken_turn slots s k at (let l = k.stands.one_holds in omega arith))
