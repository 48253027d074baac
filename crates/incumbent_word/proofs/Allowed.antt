-- What the table asks of each step on the board.
use Rattle.std.proofs.Common.{◌≡◌, ◌≢◌, ℕ, ◌+◌, ◌-◌, ◌%◌, ◌^◌, ◌<◌, ◌≤◌, min, max, cond, Bool, true, false, ◌||◌, zero, suc, List, [], ◌∷◌, ◌++◌, length, get_or, set, Option, Some, None, inl, refl, ap, sym, ◌∙◌, subst, eq-eqb, ne_eqb, arith}
use Rattle.std.specs.List.{sum_by}
use mathlib.Core.Logic.{dite}
use Rattle.std.specs.Option.{unwrap_or}
use mathlib.Core.Option.{some, none, some-injective, some-ne-none}
use mathlib.Core.Option as option
use native.Mathlib.Decide.{ℕ_discrete}
use lib.ListN.{get_elem?}
use Rattle.atomic_table.specs.Table.{State, Me, step, Act, keeps, Valid, homes_after, carried_after, Allows, Splits, Joins}
use Rattle.incumbent_word.specs.declared.view.Terms.{Terms}
use Rattle.incumbent_word.specs.declared.view.Worker.{Worker}
use Rattle.incumbent_word.specs.declared.view.View.{View}
use Rattle.incumbent_word.specs.declared.view.Guest.{Guest}
use Rattle.incumbent_word.specs.declared.view.SeatState.{SeatState}
use Rattle.incumbent_word.specs.declared.view.Event.{Event}
use Rattle.incumbent_word.specs.declared.view.Event.TheVariants.{Split, Join}
use Rattle.incumbent_word.specs.Core.{lesser, Core, opening, worker_at, newcomer, joined}
use Rattle.incumbent_word.specs.Rule.{cost_in_word, presence, seat_count, claiming, taking, ViewHolds, Stands, IsKept}
use Rattle.incumbent_word.specs.Calls.{Made, Looked, United, both_views, claim_play, take_play, post_play, read_play, split_play, join_play, host_state, guest_state, hosting_state, first_state, spent_state}
use Rattle.incumbent_word.proofs.Workers.{not_none, some_same}
use Rattle.incumbent_word.proofs.Sound.{hit_other}
use Rattle.incumbent_word.proofs.Keeps.{seat, claims_piece, takes_number, posts_cost, reads_cost, splits_worker, seats_guest, hosts_worker, joins_guest}

-- the word of the least cost
cost_some : (n : ℕ) → n ≢ 18446744073709551615 → cost_in_word n ≡ Some n
cost_some n other = ap (λ (b : Bool). cond b None (Some n)) (ne_eqb n 18446744073709551615 other)

cost_none : (n : ℕ) → n ≡ 18446744073709551615 → cost_in_word n ≡ None
cost_none n is = ap (λ (b : Bool). cond b None (Some n)) (eq-eqb n 18446744073709551615 is)

cost_min : (n k : ℕ) → n < 18446744073709551616 → k < 2 ^ 64 - 1 → cost_in_word (min n k) ≡ lesser (cost_in_word n) (Some k)
cost_min n k below small = dite (ℕ_discrete n 18446744073709551615)
    (λ is. let e : min n k ≡ k = omega arith in ap cost_in_word e ∙ (cost_some k (λ z. omega arith) ∙ ap (λ (o : Option ℕ). lesser o (Some k)) (sym (cost_none n is))))
    (λ other. cost_some (min n k) (λ z. omega arith) ∙ ap (λ (o : Option ℕ). lesser o (Some k)) (sym (cost_some n other)))

-- a count never wraps
wrap_free : (n most rest : ℕ) → most < 2 ^ 32 → max n most + rest ≤ most + 2 ^ 32 → (n + 1) % 2 ^ 64 ≡ n + 1
wrap_free n most rest few bound = let z : n + 1 < 2 ^ 64 = omega arith in omega arith

module _ {S : Type 0} (t : Terms) (id : ℕ) (me : Me S SeatState) (share : 1 ≤ me.0.view.share) where
  -- what a step on the word i owes where the words are ws
  abbrev Owes : State S SeatState → ℕ → (ℕ → ℕ) → (ℕ → Me S SeatState → Type 0) → List ℕ → Type 0
  Owes s i f then ws = (w : SeatState) × (act : Act S) × Valid s.homes me.1 act × IsKept t record { words = set ws i (f (get_or ws i 0)); homes = homes_after s.homes me.1 act; views = set s.views id w } × then (get_or ws i 0) (w, carried_after me.1 act)

  module _ (alone : me.0.guest ≡ None) where
    pub claims : (slots : ℕ) → me.0.view.no_piece_left ≡ false → Allows (IsKept t) slots id me 0 (λ n. (n + 1) % 2 ^ 64) (claim_play (step slots 0 1 0 none) me)
    claims slots raises s k _ at _ = let c : Core = k.core in let p = claims_piece t k.log c s.views k.stands id me.0 at share alone raises in
        let room : (c.claimed + 1) % 2 ^ 64 ≡ c.claimed + 1 = wrap_free c.claimed t.pieces (sum_by claiming s.views) k.stands.few_pieces k.stands.claims in
        subst (Owes s 0 (λ n. (n + 1) % 2 ^ 64) (claim_play (step slots 0 1 0 none) me)) (sym k.words) (
          seat p.0,
          keeps,
          tt,
          record { log = _; core = _; least = k.least; words = ap (λ (z : ℕ). z ∷ c.taken ∷ k.least ∷ []) room; least_is = k.least_is; stands = p.1 },
          ((refl, sym alone), p.2),
        )

    pub takes : (slots : ℕ) → me.0.view.no_number_left ≡ false → Allows (IsKept t) slots id me 1 (λ n. (n + 1) % 2 ^ 64) (take_play (step slots 1 1 0 none) me)
    takes slots raises s k _ at _ = let c : Core = k.core in let p = takes_number t k.log c s.views k.stands id me.0 at share alone raises in
        let room : (c.taken + 1) % 2 ^ 64 ≡ c.taken + 1 = wrap_free c.taken t.budget (sum_by taking s.views) k.stands.few_numbers k.stands.takes in
        subst (Owes s 1 (λ n. (n + 1) % 2 ^ 64) (take_play (step slots 1 1 0 none) me)) (sym k.words) (
          seat p.0,
          keeps,
          tt,
          record { log = _; core = _; least = k.least; words = ap (λ (z : ℕ). c.claimed ∷ z ∷ k.least ∷ []) room; least_is = k.least_is; stands = p.1 },
          ((refl, sym alone), p.2),
        )

    pub posts : (slots cost : ℕ) → cost < 2 ^ 64 - 1 → Allows (IsKept t) slots id me 2 (λ n. min n cost) (post_play (step slots 2 cost 0 none) me)
    posts slots cost small s k _ at below = let c : Core = k.core in
        let below' : k.least < 18446744073709551616 = subst (λ (ws : List ℕ). get_or ws 2 0 < 18446744073709551616) k.words below in
        let p = posts_cost t k.log c s.views k.stands id me.0 at share cost alone in
        subst (Owes s 2 (λ n. min n cost) (post_play (step slots 2 cost 0 none) me)) (sym k.words) (
          seat p.0,
          keeps,
          tt,
          record { log = _; core = _; least = min k.least cost; words = refl; least_is = ap (λ (o : Option ℕ). lesser o (Some cost)) k.least_is ∙ sym (cost_min k.least cost below' small); stands = p.1 },
          ((refl, sym alone), p.2),
        )

    pub reads : (slots : ℕ) → Allows (IsKept t) slots id me 2 (λ n. n) (read_play (step slots 2 0 0 none) me)
    reads slots s k _ at _ = let c : Core = k.core in let p = reads_cost t k.log c s.views k.stands id me.0 at share alone in
        subst (Owes s 2 (λ n. n) (read_play (step slots 2 0 0 none) me)) (sym k.words) (
          seat p.0,
          keeps,
          tt,
          record { log = _; core = _; least = k.least; words = refl; least_is = k.least_is; stands = p.1 },
          ((refl, sym alone), subst (λ (o : Option ℕ). Looked me.0.view o p.0) k.least_is p.2),
        )

    pub splits_off : (slots : ℕ) → Allows (IsKept t) slots id me 0 (λ n. n) (split_play (step slots 0 0 0 none) me)
    splits_off slots s k _ at _ = let c : Core = k.core in let log' : List Event = k.log ++ Split me.0.view.number ∷ [] in let p = splits_worker t k.log c s.views k.stands id me.0 at share alone log' refl in
        subst (Owes s 0 (λ n. n) (split_play (step slots 0 0 0 none) me)) (sym k.words) (
          record { view = record me.0.view { log = log' }; guest = Some (record { number = length c.workers; worker = newcomer me.0.view.worker.seen; log = log' }) },
          keeps,
          tt,
          record { log = log'; core = _; least = k.least; words = refl; least_is = k.least_is; stands = p.0 },
          (refl, (length c.workers, log', refl, p.1)),
        )

    pub hosts : (other : ℕ) (u : SeatState) → 1 ≤ u.view.share → u.guest ≡ None → Joins (IsKept {S = S} t) id me.0 other u (hosting_state me.0 u) spent_state
    hosts other u part alone' s k at apart beside = record { log = k.log; core = k.core; least = k.least; words = k.words; least_is = k.least_is; stands = hosts_worker t k.log k.core s.views k.stands id me.0 at share alone other u apart beside part alone' }

  module _ (g : Guest) (is : me.0.guest ≡ Some g) where
    pub seats : 2 ≤ me.0.view.share → Splits (IsKept {S = S} t) id me.0 (host_state me.0) (guest_state me.0)
    seats two s k at = record { log = k.log; core = k.core; least = k.least; words = k.words; least_is = k.least_is; stands = seats_guest t k.log k.core s.views k.stands id me.0 at share g is two }

    pub joins_in : (slots : ℕ) → Allows (IsKept t) slots id me 0 (λ n. n) (join_play (step slots 0 0 0 none) me)
    joins_in slots s k _ at _ = let c : Core = k.core in let w : View = record me.0.view { worker = joined me.0.view.worker g.worker; log = k.log ++ Join me.0.view.number g.number ∷ [] } in
        let p = joins_guest t k.log c s.views k.stands id me.0 at share g is w refl in
        subst (Owes s 0 (λ n. n) (join_play (step slots 0 0 0 none) me)) (sym k.words) (
          seat w,
          keeps,
          tt,
          record { log = w.log; core = p.0; least = k.least; words = λ i. sym p.1 i ∷ sym p.2 i ∷ k.least ∷ []; least_is = p.3 ∙ k.least_is; stands = p.4 },
          (refl, refl, λ g' its. (let same : g ≡ g' = some_same g g' (sym is ∙ its) in (ap (λ (y : Guest). record me.0.view { worker = joined me.0.view.worker y.worker; log = w.log }) same, subst (λ (y : Guest). United me.0.view y.number y.worker y.log w.log) same p.5))),
        )

-- the call's event does not depend on the share and the marks
made_again : (t : Terms) (v : View) (share : ℕ) (p q : Bool) (e : Event) (at : Core → Type 0) (r : Core) (log : List Event) → Made t (record v { share = share; no_piece_left = p; no_number_left = q }) e at r log → Made t v e at r log
made_again t v share p q e at r log m = record { between = m.between; others = m.others; log_is = m.log_is; before = m.before; reached = m.reached; was = m.was; step = m.step; moment = m.moment }

united_again : (v : View) (share : ℕ) (p q : Bool) (number : ℕ) (worker : Worker) (known log : List Event) → United (record v { share = share; no_piece_left = p; no_number_left = q }) number worker known log → United v number worker known log
united_again v share p q number worker known log u = record { after = u.after; is = u.is; gone = u.gone; event = made_again v.terms v share p q _ _ u.after log u.event; both_known = u.both_known }

-- both steps of a join together
pub joins_both : {S : Type 0} (v u : SeatState) (m m' : Me S SeatState) (a b : View) → m.0 ≡ hosting_state v u → join_play (step 0 0 0 0 none) m 0 m' → v.view ≡ a → u.view ≡ b
    → (m'.0.view ≡ both_views a b m'.0.view.log) × United a b.number b.worker b.log m'.0.view.log
joins_both v u m m' a b hosted play is is' = let g : Guest = record { number = u.view.number; worker = u.view.worker; log = u.view.log } in let told = play.2 g (ap (λ (z : SeatState). z.guest) hosted) in
    let now : m'.0.view ≡ both_views v.view u.view m'.0.view.log = told.0 ∙ ap (λ (z : SeatState). record z.view { worker = joined z.view.worker g.worker; log = m'.0.view.log }) hosted in
    let event : United v.view g.number g.worker g.log m'.0.view.log
    = united_again v.view (v.view.share + u.view.share) (v.view.no_piece_left || u.view.no_piece_left) (v.view.no_number_left || u.view.no_number_left) g.number g.worker g.log m'.0.view.log
    (subst (λ (z : SeatState). United z.view g.number g.worker g.log m'.0.view.log) hosted told.1) in
    subst (λ (z : View). (m'.0.view ≡ both_views z b m'.0.view.log) × United z b.number b.worker b.log m'.0.view.log) is
    (subst (λ (y : View). (m'.0.view ≡ both_views v.view y m'.0.view.log) × United v.view y.number y.worker y.log m'.0.view.log) is' (now, event))

-- the table at the start
starts_at : (t : Terms) (least : ℕ) → t.pieces < 2 ^ 32 → t.budget < 2 ^ 32 → Stands t [] (opening t) (first_state t ∷ [])
starts_at t least few few' = record {
  few_pieces = few;
  few_numbers = few';
  reached = refl;
  holds = λ i v at share. only i v at;
  one_seat = counts;
  whole = (0, first_state t, refl, omega arith, inl refl);
  shares = refl;
  claims = omega arith;
  takes = omega arith;
}
  where
    first : ViewHolds t [] (opening t) (first_state t)
    first = record {
      terms = refl;
      there = refl;
      known = ([], refl, λ k d l. absurd (omega arith));
      guest = λ g is. absurd (not_none g is);
      no_piece = λ e. absurd (unmarked e);
      no_number = λ e. absurd (unmarked e);
    }
      where
        unmarked : ¬ (false ≡ true)
        unmarked e = cc

    only : (i : ℕ) (v : SeatState) → get_elem? (first_state t ∷ []) i ≡ some v → ViewHolds t [] (opening t) v
    only zero v at = subst (ViewHolds t [] (opening t)) (some-injective (first_state t) v at) first
    only (suc i) v at = absurd (some-ne-none v (sym at))

    counts : (n : ℕ) → sum_by (seat_count n) (first_state t ∷ []) ≡ presence (worker_at (opening t).workers n)
    counts zero = refl
    counts (suc n) = let h = hit_other 0 (suc n) (λ e. omega arith) in omega arith

pub starts : {S : Type 0} (t : Terms) (least : ℕ) (homes : List (option.Option S)) → t.pieces < 2 ^ 32 → t.budget < 2 ^ 32 → t.start ≡ cost_in_word least
    → IsKept t (record { words = 0 ∷ 0 ∷ least ∷ []; homes = homes; views = first_state t ∷ [] })
starts t least homes few few' is = record { log = []; core = opening t; least = least; words = refl; least_is = is; stands = starts_at t least few few' }

-- the word that the least cost begins with
pub start_word : (start : Option ℕ) → ((c : ℕ) → start ≡ Some c → c < 2 ^ 64 - 1) → start ≡ cost_in_word (unwrap_or start 18446744073709551615)
start_word None small = refl
start_word (Some c) small = let below = small c refl in sym (cost_some c (λ e. omega arith))
