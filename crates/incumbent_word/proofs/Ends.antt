-- What the last seat knows of the last state.
use Rattle.std.proofs.Common.{◌≡◌, ℕ, zero, suc, ◌^◌, ◌<◌, ◌≤◌, min, eqb, true, List, [], ◌∷◌, Option, Some, None, ⊎_elim, refl, ap, sym, ◌∙◌, subst, arith}
use Rattle.std.specs.List.{sum_by, count_by}
use mathlib.Core.Logic.{dite}
use mathlib.Core.Option.{some, some-injective, some-ne-none}
use native.Mathlib.Decide.{ℕ_discrete}
use lib.ListN.{get_elem?}
use Rattle.std.proofs.lemmas.List.Sums.{sum_by-cons}
use Rattle.atomic_table.specs.Table.{Final, Seen}
use Rattle.incumbent_word.specs.declared.view.Terms.{Terms}
use Rattle.incumbent_word.specs.declared.view.Worker.{Worker}
use Rattle.incumbent_word.specs.declared.view.View.{View}
use Rattle.incumbent_word.specs.declared.view.Guest.{Guest}
use Rattle.incumbent_word.specs.declared.view.SeatState.{SeatState}
use Rattle.incumbent_word.specs.declared.view.Event.{Event}
use Rattle.incumbent_word.specs.Core.{lesser, AtMost, Core, opening, worker_at, Has, Runs, EachOnce}
use Rattle.incumbent_word.specs.Rule.{cost_in_word, presence, guest_count, seat_count, KnowsAll, Stands, IsKept}
use Rattle.incumbent_word.specs.Seats.{EndsAs}
use Rattle.incumbent_word.proofs.Costs.{at_most_both, lesser_left, lesser_right, lesser_greatest}
use Rattle.incumbent_word.proofs.Workers.{not_none, some_same, one_part, two_parts, only_one, presence_some}
use Rattle.incumbent_word.proofs.Sound.{hit_other, Sound, sound_opening, sound_runs}
use Rattle.incumbent_word.proofs.Keeps.{seat_some, seat_spent}

abbrev share_of : SeatState → ℕ
share_of v = v.view.share

-- where one seat has all shares, the others have no worker
sum_alone : (n : ℕ) (vs : List SeatState) (id : ℕ) (v : SeatState) → get_elem? vs id ≡ some v → sum_by share_of vs ≡ v.view.share → sum_by (seat_count n) vs ≡ seat_count n v
sum_alone n [] id v at all = absurd (some-ne-none v (sym at))
sum_alone n (x ∷ xs) zero v at all = let same : x ≡ v = some-injective x v at in let e : x.view.share ≡ v.view.share = ap share_of same in let c : seat_count n x ≡ seat_count n v = ap (seat_count n) same in
    let none : sum_by (seat_count n) xs ≡ 0 = spent xs (omega (arith, sum_by-cons share_of x xs)) in omega (arith, sum_by-cons (seat_count n) x xs)
  where
    spent : (ys : List SeatState) → sum_by share_of ys ≡ 0 → sum_by (seat_count n) ys ≡ 0
    spent [] none = refl
    spent (y ∷ ys) none = let c = seat_spent n y (omega (arith, sum_by-cons share_of y ys)) in let d = spent ys (omega (arith, sum_by-cons share_of y ys)) in omega (arith, sum_by-cons (seat_count n) y ys)
sum_alone n (x ∷ xs) (suc id) v at all = let p = one_part share_of xs id v at in let c = seat_spent n x (omega (arith, sum_by-cons share_of x xs)) in
    let d = sum_alone n xs id v at (omega (arith, sum_by-cons share_of x xs)) in omega (arith, sum_by-cons (seat_count n) x xs)

pub record Ended (t : Terms) (v : View) (claimed taken cost : ℕ) : Type 0 where
  pub pieces : EachOnce (λ x. count_by (λ y. eqb y x) v.worker.pieces) (min claimed t.pieces)
  pub numbers : EachOnce (λ x. count_by (λ y. eqb y x) v.worker.numbers) (min taken t.budget)
  pub least : cost_in_word cost ≡ lesser t.start v.worker.best
  pub seen : AtMost (cost_in_word cost) v.worker.seen
  pub last : EndsAs t v (min claimed t.pieces) (min taken t.budget) (cost_in_word cost)
  pub all_pieces : v.no_piece_left ≡ true → min claimed t.pieces ≡ t.pieces
  pub all_numbers : v.no_number_left ≡ true → min taken t.budget ≡ t.budget

module _ (t : Terms) (log : List Event) (s : Core) (vs : List SeatState) (h : Stands t log s vs) (id : ℕ) (v : SeatState) (at : get_elem? vs id ≡ some v) (whole : v.view.share ≡ 2 ^ 32) (alone : v.guest ≡ None) where
  all : sum_by share_of vs ≡ v.view.share
  all = h.shares ∙ sym whole

  mine : Rattle.incumbent_word.specs.Rule.ViewHolds t log s v
  mine = h.holds id v at (omega arith)

  only : (i : ℕ) (w : Worker) → Has s i w → i ≡ v.view.number
  only i w there = dite (ℕ_discrete i v.view.number) (λ is. is)
      (λ other. absurd (let one = presence_some (worker_at s.workers i) w there in let o = h.one_seat i in let c = sum_alone i vs id v at all in let d = seat_some i v (omega arith) in
      let e : guest_count v.guest i ≡ 0 = ap (λ (q : Option Guest). guest_count q i) alone in let f = hit_other v.view.number i (λ z. other (sym z)) in omega arith))

  knows : v.view.log ≡ log
  knows = let w = h.whole in dite (ℕ_discrete w.0 id)
      (λ here. let same : v ≡ w.1 = some-injective v w.1 (sym at ∙ subst (λ (i : ℕ). get_elem? vs i ≡ some w.1) here w.2) in let k : KnowsAll log v = subst (KnowsAll log) (sym same) w.4 in
      ⊎_elim (λ (e : v.view.log ≡ log). e) (λ (e : (g : Guest) × (v.guest ≡ Some g) × (g.log ≡ log)). absurd (not_none e.0 (sym alone ∙ e.1))) k)
      (λ other. absurd (let p = two_parts share_of vs id w.0 v w.1 at w.2 other in let q = w.3 in omega arith))

  ends_at : (cost : ℕ) → s.least ≡ cost_in_word cost → Ended t v.view s.claimed s.taken cost
  ends_at cost is = let sound : Sound t s = sound_runs t (opening t) log s (sound_opening t) h.reached in let me = sound.each v.view.number v.view.worker mine.there in let best : Option ℕ = lesser t.start v.view.worker.best in
      let low : AtMost best s.least = ⊎_elim (λ (e : s.least ≡ t.start). subst (λ (z : Option ℕ). AtMost best z) (sym e) (lesser_left t.start v.view.worker.best))
      (λ (q : (i : ℕ) × (w : Worker) × (worker_at s.workers i ≡ Some w) × (w.best ≡ s.least)).
      let its : q.1 ≡ v.view.worker = some_same q.1 v.view.worker (sym q.2 ∙ (ap (worker_at s.workers) (only q.0 q.1 q.2) ∙ mine.there)) in
      subst (λ (z : Option ℕ). AtMost best z) (sym (ap (λ (w : Worker). w.best) its) ∙ q.3) (lesser_right t.start v.view.worker.best)) sound.attained in record {
        pieces = λ x. subst (λ (n : ℕ). (x < min s.claimed t.pieces → n ≡ 1) × (min s.claimed t.pieces ≤ x → n ≡ 0)) (only_one (λ w. count_by (λ y. eqb y x) w.pieces) s.workers v.view.number v.view.worker mine.there only) (sound.pieces x);
        numbers = λ x. subst (λ (n : ℕ). (x < min s.taken t.budget → n ≡ 1) × (min s.taken t.budget ≤ x → n ≡ 0)) (only_one (λ w. count_by (λ y. eqb y x) w.numbers) s.workers v.view.number v.view.worker mine.there only) (sound.numbers x);
        least = sym is ∙ at_most_both s.least best (lesser_greatest t.start v.view.worker.best s.least sound.start me.0) low;
        seen = subst (λ (z : Option ℕ). AtMost z v.view.worker.seen) is me.1;
        last = record { final = s; reached = subst (λ (l : List Event). Runs t (opening t) l s) (sym knows) h.reached; last = mine.there; alone = only; claimed_is = refl; taken_is = refl; least_is = sym is };
        all_pieces = λ e. (let n = mine.no_piece e in omega arith);
        all_numbers = λ e. (let n = mine.no_number e in omega arith);
      }

pub ends : {S : Type 0} (t : Terms) (id : ℕ) (v : SeatState) (ws : List ℕ) (xs : List S) (a b c : ℕ) → Final (Seen (IsKept t) id v) ws xs → v.view.share ≡ 2 ^ 32 → v.guest ≡ None
    → get_elem? ws 0 ≡ some a → get_elem? ws 1 ≡ some b → get_elem? ws 2 ≡ some c → Ended t v.view a b c
ends t id v ws xs a b c f whole alone first second third = let k = f.1.0 in let is : ws ≡ k.core.claimed ∷ k.core.taken ∷ k.least ∷ [] = sym f.2 ∙ k.words in
    let at : (i : ℕ) (n : ℕ) → get_elem? ws i ≡ some n → get_elem? (k.core.claimed ∷ k.core.taken ∷ k.least ∷ []) i ≡ some n = λ i n e. ap (λ (l : List ℕ). get_elem? l i) (sym is) ∙ e in
    let a' = some-injective k.core.claimed a (at 0 a first) in let b' = some-injective k.core.taken b (at 1 b second) in let c' = some-injective k.least c (at 2 c third) in
    subst (λ (z : ℕ). Ended t v.view z b c) a' (subst (λ (z : ℕ). Ended t v.view k.core.claimed z c) b' (subst (λ (z : ℕ). Ended t v.view k.core.claimed k.core.taken z) c'
    (ends_at t k.log k.core f.0.views k.stands id v f.1.1 whole alone k.least k.least_is)))
