-- The splits while a turn is made, and the joins while it is closed, keep the rule.
use Rattle.std.proofs.Common.{◌≡◌, ℕ, ◌+◌, ◌<◌, Bool, false, ◌||◌, List, [], ◌∷◌, ◌++◌, length, set, Option, refl, ap, sym, ◌∙◌, length-append, arith}
use Rattle.std.specs.List.{sum_by}
use Rattle.std.proofs.lemmas.List.Sums.{sum_by_push}
use mathlib.Core.Option.{Option as Maybe, some}
use lib.ListN.{get_elem?}
use Rattle.atomic_table.specs.Table.{State, Me, Splits, Joins}
use Rattle.turn_lock.proofs.Places as places
use Rattle.turn_lock.specs.declared.view.View.{View}
use Rattle.turn_lock.specs.Views.{number_count, seen_count, all_but_first, first_alone, united, spent_view}
use Rattle.turn_lock.specs.Rule.{Knows, ViewHolds, Stands, IsKept}
use Rattle.turn_lock.proofs.Sums.{sum_put}
use Rattle.turn_lock.proofs.Every.{every_append, all_set, all_snoc}
use Rattle.turn_lock.proofs.CallerLists.{number_count_cut, seen_count_cut, length_cut, every_first, every_other, number_count_append, seen_count_append}
use Rattle.turn_lock.proofs.OpenKeeps.{holding, holding_none, false_not_true}

-- a sum after a split, where the two halves have together what the whole had
split_sum : {A : Type 0} (f : A → ℕ) (vs : List A) (id : ℕ) (v l r : A) → get_elem? vs id ≡ some v → f r + f l ≡ f v
    → sum_by f (set vs id l ++ r ∷ []) ≡ sum_by f vs
split_sum f vs id v l r at halves = let s = sum_put f vs id v l at in let m = sum_by_push f (set vs id l) r in
    omega arith

-- a sum after a join, where the one has what the two had, and the spent one nothing
join_sum : {A : Type 0} (f : A → ℕ) (vs : List A) (id other : ℕ) (v u w spent : A) → get_elem? vs id ≡ some v
    → get_elem? (set vs id w) other ≡ some u → f w ≡ f u + f v → f spent ≡ 0
    → sum_by f (set (set vs id w) other spent) ≡ sum_by f vs
join_sum f vs id other v u w spent at beside both none = let s = sum_put f vs id v w at in
    let m = sum_put f (set vs id w) other u spent beside in omega arith

module _ {T O E : Type 0} (origin : T → O) (entries : T → List E) (caller : E → ℕ) (start : T) (callers : ℕ) where
  module _ (turn : ℕ) (history : List E) (homes : List (Maybe (Option T))) (vs : List (View O E)) (h : Stands origin entries caller start callers turn history homes vs) (id : ℕ) (v : View O E) (at : get_elem? vs id ≡ some v) where
    abbrev Holds : List (View O E) → Type 0
    Holds = Stands origin entries caller start callers turn history homes

    hands_over : v.holds ≡ false → Holds (set vs id (all_but_first v) ++ first_alone v ∷ [])
    hands_over free = let l : View O E = all_but_first v in let r : View O E = first_alone v in
        let one : List (View O E) = set vs id l in let f = h.views_hold id v at in record {
          entries_are = h.entries_are;
          turn_is = h.turn_is ∙ sym (split_sum holding vs id v l r at (omega arith));
          one_holds = h.one_holds;
          each_number = λ n below. split_sum (λ u. number_count n u.callers) vs id v l r at (number_count_cut n v.callers) ∙ h.each_number n below;
          all_callers = split_sum (λ u. length u.callers) vs id v l r at (length_cut v.callers) ∙ h.all_callers;
          whole = (let s = split_sum (λ u. seen_count (length history) u.callers) vs id v l r at (seen_count_cut (length history) v.callers) in let e = h.whole in omega arith);
          views_hold = all_snoc (ViewHolds caller history (origin start) callers) one r
              (all_set (ViewHolds caller history (origin start) callers) vs id l (λ j u _ there. h.views_hold j u there) (record {
                knows = every_other (Knows caller history callers) v.callers f.knows;
                origin_is = λ z. f.origin_is (let c = length_cut v.callers in omega arith);
                holds_is = λ e. absurd (false_not_true (sym free ∙ e));
              }))
              (record {
                knows = every_first (Knows caller history callers) v.callers f.knows;
                origin_is = λ z. f.origin_is (let c = length_cut v.callers in omega arith);
                holds_is = λ e. absurd (false_not_true e);
              });
          at_home = h.at_home;
          out = h.out;
        }

    joins_other : (other : ℕ) (u : View O E) → v.holds ≡ false → u.holds ≡ false → 0 < length v.callers
        → ¬ (other ≡ id) → get_elem? (set vs id (united v u)) other ≡ some u
        → Holds (set (set vs id (united v u)) other spent_view)
    joins_other other u free free' some_caller apart beside = let w : View O E = united v u in
        let one : List (View O E) = set vs id w in let f = h.views_hold id v at in
        let was_there : get_elem? vs other ≡ some u = sym (places.set_else vs id other w apart) ∙ beside in
        let g = h.views_hold other u was_there in
        let w_free : w.holds ≡ false = ap (λ (b : Bool). b || u.holds) free ∙ free' in
        let none_v = holding_none v free in let none_u = holding_none u free' in
        let none_w = holding_none w w_free in record {
          entries_are = h.entries_are;
          turn_is = h.turn_is ∙ sym (join_sum holding vs id other v u w spent_view at beside (omega arith) refl);
          one_holds = h.one_holds;
          each_number = λ n below. join_sum (λ z. number_count n z.callers) vs id other v u w spent_view at beside (number_count_append n u.callers v.callers) refl ∙ h.each_number n below;
          all_callers = join_sum (λ z. length z.callers) vs id other v u w spent_view at beside (length-append u.callers v.callers) refl ∙ h.all_callers;
          whole = (let s = join_sum (λ z. seen_count (length history) z.callers) vs id other v u w spent_view at beside (seen_count_append (length history) u.callers v.callers) refl in let e = h.whole in omega arith);
          views_hold = all_set (ViewHolds caller history (origin start) callers) one other spent_view
              (λ j z _ there. all_set (ViewHolds caller history (origin start) callers) vs id w (λ i y _ here. h.views_hold i y here) (record {
                knows = every_append (Knows caller history callers) u.callers v.callers g.knows f.knows;
                origin_is = λ _. f.origin_is some_caller;
                holds_is = λ e. absurd (false_not_true (sym w_free ∙ e));
              }) j z there)
              (record { knows = tt; origin_is = λ l. absurd (omega arith); holds_is = λ e. absurd (false_not_true e) });
          at_home = h.at_home;
          out = h.out;
        }

  module _ (id : ℕ) (me : Me (Option T) (View O E)) where
    abbrev Rule : State (Option T) (View O E) → Type 0
    Rule = IsKept origin entries caller start callers

    pub cuts : me.0.holds ≡ false → Splits Rule id me.0 (all_but_first me.0) (first_alone me.0)
    cuts free s k at = record { turn = k.turn; history = k.history; words = k.words; stands = hands_over k.turn k.history s.homes s.views k.stands id me.0 at free }

    pub joins : (other : ℕ) (u : View O E) → me.0.holds ≡ false → u.holds ≡ false → 0 < length me.0.callers
        → Joins Rule id me.0 other u (united me.0 u) spent_view
    joins other u free free' some_caller s k at apart beside = record { turn = k.turn; history = k.history; words = k.words; stands = joins_other k.turn k.history s.homes s.views k.stands id me.0 at other u free free' some_caller apart beside }
