-- The deciding step, which counts the entry of the seat that has the turn, keeps the rule.
use Rattle.std.proofs.Common.{◌≡◌, ◌≢◌, ℕ, ◌+◌, ◌%◌, ◌^◌, ◌<◌, true, List, [], ◌∷◌, ◌++◌, map, length, set, Option, Some, None, inl, inr, refl, ap, sym, ◌∙◌, subst, length-append, arith}
use Rattle.std.specs.List.{AllByRecursion}
use Rattle.std.proofs.lemmas.List.{append-nil}
use mathlib.Core.Option.{Option as Maybe, some, none}
use lib.ListN.{get_elem?}
use Rattle.atomic_table.specs.Table.{State, Me, step, keeps, Allows}
use Rattle.turn_lock.specs.declared.view.Caller.{Caller}
use Rattle.turn_lock.specs.declared.view.View.{View}
use Rattle.turn_lock.specs.History.{own, MayGive}
use Rattle.turn_lock.specs.Views.{after_seeing, number_count, seen_count}
use Rattle.turn_lock.specs.Rule.{Knows, ViewHolds, Stands, IsKept}
use Rattle.turn_lock.specs.Plays.{decide_play}
use Rattle.turn_lock.proofs.HistoryLemmas.{starts_longer, own_append, own_other}
use Rattle.turn_lock.proofs.Sums.{sum_put, part, two_parts}
use Rattle.turn_lock.proofs.Every.{every_append, every_map, all_set}
use Rattle.turn_lock.proofs.CallerLists.{is_number_same, number_count_cons, number_count_map, seen_count_map, length_map}
use Rattle.turn_lock.proofs.OpenKeeps.{holding, held, no_other}
use Rattle.turn_lock.proofs.WinKeeps.{seeing_knows, Owes}

module _ {E : Type 0} (caller : E → ℕ) (history : List E) (callers : ℕ) (e : E) where
  -- a caller with another number than that of the new entry
  knows_more : (c : Caller E) → caller e ≢ c.number → Knows caller history callers c
      → Knows caller (history ++ e ∷ []) callers c
  knows_more c other k = record {
    seen_is = starts_longer history (e ∷ []) c.seen k.seen_is;
    own_is = k.own_is ∙ sym (own_append caller c.number history (e ∷ [])
        ∙ (ap (λ (l : List E). own caller c.number history ++ l) (own_other caller c.number e other)
        ∙ append-nil (own caller c.number history)));
    own_seen = k.own_seen;
    number_is = k.number_is;
  }

  all_know_more : (cs : List (Caller E)) → number_count (caller e) cs ≡ 0
      → AllByRecursion (Knows caller history callers) cs
      → AllByRecursion (Knows caller (history ++ e ∷ []) callers) cs
  all_know_more [] absent h = tt
  all_know_more (c ∷ cs) absent h = let all = number_count_cons (caller e) c cs in (
    knows_more c (λ is. (let one = is_number_same (caller e) c (sym is) in omega arith)) h.0,
    all_know_more cs (omega arith) h.1,
  )

abbrev pub value_or : {T : Type 0} → T → Option T → T
value_or d None = d
value_or d (Some x) = x

abbrev pub first_value : {T : Type 0} → T → List (ℕ × Option T) → T
first_value d [] = d
first_value d (x ∷ xs) = value_or d x.1

module _ {T O E : Type 0} (origin : T → O) (entries : T → List E) (caller : E → ℕ) (start : T) (callers : ℕ) where
  decides : (turn : ℕ) (history : List E) (homes : List (Maybe (Option T))) (vs : List (View O E))
      → Stands origin entries caller start callers turn history homes vs → (id : ℕ) (v : View O E)
      → get_elem? vs id ≡ some v
      → v.holds ≡ true → (p : Caller E) → v.callers ≡ p ∷ [] → (e : E) → caller e ≡ p.number
      → Stands origin entries caller start callers turn (history ++ e ∷ []) homes (set vs id record { origin = v.origin; callers = map (after_seeing caller (history ++ e ∷ [])) v.callers; holds = v.holds })
  decides turn history homes vs h id v at is p alone e mine = let longer : List E = history ++ e ∷ [] in
      let w : View O E = record { origin = v.origin; callers = map (after_seeing caller longer) v.callers; holds = v.holds } in
      let f = h.views_hold id v at in
      let k : Knows caller history callers p = (subst (AllByRecursion (Knows caller history callers)) alone f.knows).0 in
      let below : p.number < callers = k.number_is in let below' : caller e < callers = omega arith in
      let long = length_map caller longer v.callers in let some_caller = (f.holds_is is).0 in
      let has : number_count (caller e) v.callers ≡ 1 = ap (number_count (caller e)) alone
      ∙ (let one = is_number_same (caller e) p (sym mine) in
      omega (arith, number_count_cons (caller e) p [])) in record {
        entries_are = every_append (λ (x : E). caller x < callers) history (e ∷ []) h.entries_are (below', tt);
        turn_is = (let s = sum_put holding vs id v w at in let t = h.turn_is in omega arith);
        one_holds = h.one_holds;
        each_number = λ n less. (let s = sum_put (λ u. number_count n u.callers) vs id v w at in
            let m = number_count_map caller longer n v.callers in let q = h.each_number n less in omega arith);
        all_callers = (let s = sum_put (λ u. length u.callers) vs id v w at in let q = h.all_callers in
            omega arith);
        whole = (let s = sum_put (λ u. seen_count (length longer) u.callers) vs id v w at in
            let q = part (λ u. seen_count (length longer) u.callers) vs id v at in
            let m = seen_count_map caller longer v.callers in omega arith);
        views_hold = all_set (ViewHolds caller longer (origin start) callers) vs id w
            (λ j u other there. let g = h.views_hold j u there in let q = h.each_number (caller e) below' in
            let two = two_parts (λ (z : View O E). number_count (caller e) z.callers) vs id j v u other at there in
            record {
              knows = all_know_more caller history callers e u.callers (omega arith) g.knows;
              origin_is = g.origin_is;
              holds_is = λ too. absurd (no_other origin entries caller start callers turn history homes vs h id v at is j u other there too);
            })
            (record {
              knows = every_map (Knows caller history callers) (Knows caller longer callers) (after_seeing caller longer) v.callers (λ c q. seeing_knows caller longer callers c q.number_is) f.knows;
              origin_is = λ _. f.origin_is some_caller;
              holds_is = λ q. (omega arith, every_map (Knows caller history callers) (λ c. c.seen ≡ longer) (after_seeing caller longer) v.callers (λ c z. refl) f.knows);
            });
        at_home = λ z. absurd (let o = held origin entries caller start callers turn history homes vs h id v at is in omega arith);
        out = h.out;
      }

  module _ (id : ℕ) (me : Me (Option T) (View O E)) (p : Caller E) (alone : me.0.callers ≡ p ∷ []) (y : T) (slot : me.1 ≡ (0, Some y) ∷ []) (holds : me.0.holds ≡ true) where
    abbrev Rule : State (Option T) (View O E) → Type 0
    Rule = IsKept origin entries caller start callers

    abbrev one_more : ℕ → ℕ
    one_more n = (n + 1) % 2 ^ 64

    abbrev then : ℕ → ℕ → Me (Option T) (View O E) → Type 0
    then slots = decide_play origin entries caller (step slots 1 1 0 none) me

    same_value : (z : T) → me.1 ≡ (0, Some z) ∷ [] → y ≡ z
    same_value z slot' = ap (first_value y) (sym slot ∙ slot')

    -- the one caller of a seat that has the turn has seen the whole history
    pub has_seen_all : (history : List E) → AllByRecursion (λ c. c.seen ≡ history) me.0.callers → p.seen ≡ history
    has_seen_all history all = (subst (AllByRecursion (λ c. c.seen ≡ history)) alone all).0

    decided : (slots : ℕ) (e : E) → entries y ≡ p.seen ++ e ∷ [] → caller e ≡ p.number → length (entries y) < 2 ^ 64
        → Allows Rule slots id me 1 one_more (then slots)
    decided slots e grown mine short s k _ at _ = let h = k.stands in let f = h.views_hold id me.0 at in
        let history : List E = k.history in
        let has : p.seen ≡ history = has_seen_all history (f.holds_is holds).1 in
        let is : history ++ e ∷ [] ≡ entries y = ap (λ (l : List E). l ++ e ∷ []) (sym has) ∙ sym grown in
        let w : View O E = record { origin = me.0.origin; callers = map (after_seeing caller (entries y)) me.0.callers; holds = me.0.holds } in
        let room : (length history + 1) % 2 ^ 64 ≡ length (entries y) = (let l : length (entries y) ≡ length (history ++ e ∷ []) = ap length (sym is) in let m = length-append history (e ∷ []) in let q : length history + 1 < 2 ^ 64 = omega arith in omega arith) in
        let stands' = subst (λ (l : List E). Stands origin entries caller start callers k.turn l s.homes (set s.views id record { origin = me.0.origin; callers = map (after_seeing caller l) me.0.callers; holds = me.0.holds })) is
        (decides k.turn history s.homes s.views h id me.0 at holds p alone e mine) in
        let done : Owes Rule id s.views 1 one_more (then slots) (k.turn ∷ length history ∷ []) s.homes me.1
        = (
          w,
          keeps,
          tt,
          record { turn = k.turn; history = entries y; words = ap (λ (z : ℕ). k.turn ∷ z ∷ []) room; stands = stands' },
          (refl, λ z slot'. ap (λ (x : T). record { origin = me.0.origin; callers = map (after_seeing caller (entries x)) me.0.callers; holds = me.0.holds }) (same_value z slot')),
        ) in
        subst (λ (ws : List ℕ). Owes Rule id s.views 1 one_more (then slots) ws s.homes me.1) (sym k.words) done

    pub decided_if : (slots : ℕ) → MayGive caller p.number p.seen (entries y) → length p.seen < length (entries y)
        → length (entries y) < 2 ^ 64 → Allows Rule slots id me 1 one_more (then slots)
    decided_if slots (inl same) more short = absurd (let l : length (entries y) ≡ length p.seen = ap length same in
        omega arith)
    decided_if slots (inr (e, grown, mine)) more short = decided slots e grown mine short
