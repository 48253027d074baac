-- Each event of a seat leads from a state that the board may be in to another.
use Rattle.std.proofs.Common.{◌≡◌, ◌≢◌, ℕ, ◌+◌, ◌-◌, ◌/◌, ◌<◌, ◌≤◌, max, eqb, cond, Bool, true, false, ◌||◌, List, [], ◌∷◌, ◌++◌, length, set, Option, Some, None, inl, inr, ⊎_elim, refl, ap, sym, ◌∙◌, subst, eq-eqb, ne_eqb, lt_of_not-le, arith}
use Rattle.std.specs.List.{All, sum_by, count_by}
use Rattle.std.proofs.lemmas.List.{append_assoc, append-nil}
use Rattle.std.proofs.lemmas.List.Elements.{All-push}
use Rattle.std.proofs.lemmas.List.Sums.{sum_by_push}
use mathlib.Core.Logic.{dite}
use mathlib.Core.Option.{some, some-injective}
use native.Mathlib.Decide.{dec_le, ℕ_discrete}
use lib.ListN.{get_elem?}
use Rattle.incumbent_word.proofs.Places as places
use Rattle.incumbent_word.specs.declared.view.Terms.{Terms}
use Rattle.incumbent_word.specs.declared.view.Worker.{Worker}
use Rattle.incumbent_word.specs.declared.view.View.{View}
use Rattle.incumbent_word.specs.declared.view.Guest.{Guest}
use Rattle.incumbent_word.specs.declared.view.SeatState.{SeatState}
use Rattle.incumbent_word.specs.declared.view.Event.{Event}
use Rattle.incumbent_word.specs.declared.view.Event.TheVariants.{Claim, Take, Post, Read, Split, Join}
use Rattle.incumbent_word.specs.Core.{lesser, AtMost, Core, maker, opening, newcomer, joined, worker_at, Has, after_post, Steps, Runs, piece_holders, number_holders}
use Rattle.incumbent_word.specs.Rule.{IsKnown, presence, guest_count, seat_count, claiming, taking, GuestHolds, ViewHolds, KnowsAll, Stands}
use Rattle.incumbent_word.specs.Calls.{Made, Claimed, Took, Posted, Looked, Parted, United, host_state, guest_state, guest_state_of, hosting_state, spent_state}
use Rattle.incumbent_word.proofs.Costs.{lesser_left, at_most_trans}
use Rattle.incumbent_word.proofs.Workers.{part_of, not_none, some_same, at_here, at_else, at_longer, past_end, at_end, at_before, presence_some, presence_most, total_put, two_parts, put_here}
use Rattle.incumbent_word.proofs.Sound.{hit, hit_same, hit_other, Sound, sound_opening, sound_runs, runs_snoc}

-- how often a seat has a worker
pub seat_some : (n : ℕ) (v : SeatState) → 1 ≤ v.view.share → seat_count n v ≡ hit v.view.number n + guest_count v.guest n
seat_some n v share = ap (λ (b : Bool). cond {A = ℕ} b 0 (hit v.view.number n + guest_count v.guest n)) (ne_eqb v.view.share 0 (λ e. omega arith))

pub seat_spent : (n : ℕ) (v : SeatState) → v.view.share ≡ 0 → seat_count n v ≡ 0
seat_spent n v none = ap (λ (b : Bool). cond {A = ℕ} b 0 (hit v.view.number n + guest_count v.guest n)) (eq-eqb v.view.share 0 none)

guests : (n : ℕ) (o p : Option Guest) → o ≡ p → guest_count o n ≡ guest_count p n
guests n o p is = ap (λ (q : Option Guest). guest_count q n) is

pub own_count : (v : SeatState) → 1 ≤ v.view.share → 1 ≤ seat_count v.view.number v
own_count v share = let s = seat_some v.view.number v share in let h = hit_same v.view.number v.view.number refl in omega arith

guest_own : (v : SeatState) (g : Guest) → v.guest ≡ Some g → 1 ≤ v.view.share → 1 ≤ seat_count g.number v
guest_own v g is share = let s = seat_some g.number v share in let e : guest_count v.guest g.number ≡ hit g.number g.number = guests g.number v.guest (Some g) is in
    let h = hit_same g.number g.number refl in omega arith

-- events that are known
none_by : (n : ℕ) → All (λ (e : Event). maker e ≢ n) []
none_by n k d l = absurd (omega arith)

known_now : (n : ℕ) (known log : List Event) → known ≡ log → IsKnown n known log
known_now n known log is = ([], append-nil known ∙ is, none_by n)

known_more : (n : ℕ) (known log : List Event) (e : Event) → maker e ≢ n → IsKnown n known log → IsKnown n known (log ++ e ∷ [])
known_more n known log e other k = (k.0 ++ e ∷ [], sym (append_assoc known k.0 (e ∷ [])) ∙ ap (λ (l : List Event). l ++ e ∷ []) k.1, All-push (λ (x : Event). maker x ≢ n) k.0 e k.2 other)

-- a fact of each seat, after one changed or one came
all_put : (Q : SeatState → Type 0) (vs : List SeatState) (i : ℕ) (w : SeatState) → ((j : ℕ) (u : SeatState) → get_elem? vs j ≡ some u → j ≢ i → Q u) → Q w → (j : ℕ) (u : SeatState) → get_elem? (set vs i w) j ≡ some u → Q u
all_put Q vs i w all now j u e = ⊎_elim (λ (t : (j ≡ i) × (w ≡ u)). subst Q t.1 now) (λ (t : (j ≢ i) × (get_elem? vs j ≡ some u)). all j u t.1 t.0) (places.at_set vs i j w u e)

all_snoc : (Q : SeatState → Type 0) (vs : List SeatState) (w : SeatState) → ((j : ℕ) (u : SeatState) → get_elem? vs j ≡ some u → Q u) → Q w → (j : ℕ) (u : SeatState) → get_elem? (vs ++ w ∷ []) j ≡ some u → Q u
all_snoc Q vs w all now j u e = ⊎_elim (all j u) (λ (t : w ≡ u). subst Q t now) (places.at_snoc vs w u j e)

-- who is there, where a worker changed, came or is gone
presence_set : (ws : List (Option Worker)) (i : ℕ) (w v : Worker) (n : ℕ) → worker_at ws i ≡ Some w → presence (worker_at (set ws i (Some v)) n) ≡ presence (worker_at ws n)
presence_set ws i w v n at = dite (ℕ_discrete n i)
    (λ is. presence_some (worker_at (set ws i (Some v)) n) v (subst (λ (k : ℕ). worker_at (set ws i (Some v)) k ≡ Some v) (sym is) (at_here ws i (Some v) w at))
    ∙ sym (presence_some (worker_at ws n) w (subst (λ (k : ℕ). worker_at ws k ≡ Some w) (sym is) at)))
    (λ other. ap presence (at_else ws i n (Some v) other))

presence_snoc : (ws : List (Option Worker)) (v : Worker) (n : ℕ) → presence (worker_at (ws ++ Some v ∷ []) n) ≡ presence (worker_at ws n) + hit (length ws) n
presence_snoc ws v n = dite (ℕ_discrete n (length ws))
    (λ is. let one = presence_some (worker_at (ws ++ Some v ∷ []) n) v (subst (λ (k : ℕ). worker_at (ws ++ Some v ∷ []) k ≡ Some v) (sym is) (at_end ws (Some v))) in
    let none : presence (worker_at ws n) ≡ 0 = ap presence (past_end ws n (omega arith)) in let h = hit_same (length ws) n (sym is) in omega arith)
    (λ other. let e : presence (worker_at (ws ++ Some v ∷ []) n) ≡ presence (worker_at ws n) = ap presence (at_before ws (Some v) n other) in let h = hit_other (length ws) n (λ z. other (sym z)) in omega arith)

presence_gone : (ws : List (Option Worker)) (i : ℕ) (w : Worker) (n : ℕ) → worker_at ws i ≡ Some w → presence (worker_at (set ws i None) n) + hit i n ≡ presence (worker_at ws n)
presence_gone ws i w n at = dite (ℕ_discrete n i)
    (λ is. let none : presence (worker_at (set ws i None) n) ≡ 0 = ap presence (subst (λ (k : ℕ). worker_at (set ws i None) k ≡ None) (sym is) (at_here ws i None w at)) in
    let one = presence_some (worker_at ws n) w (subst (λ (k : ℕ). worker_at ws k ≡ Some w) (sym is) at) in let h = hit_same i n (sym is) in omega arith)
    (λ other. let e : presence (worker_at (set ws i None) n) ≡ presence (worker_at ws n) = ap presence (at_else ws i n None other) in let h = hit_other i n (λ z. other (sym z)) in omega arith)

-- a seat still agrees after an event of other workers
later : (t : Terms) (log : List Event) (s : Core) (e : Event) (r : Core) (u : SeatState) → ((m : ℕ) (x : Worker) → 1 ≤ seat_count m u → Has s m x → Has r m x) → ((m : ℕ) → 1 ≤ seat_count m u → maker e ≢ m)
    → s.claimed ≤ r.claimed → s.taken ≤ r.taken → 1 ≤ u.view.share → ViewHolds t log s u → ViewHolds t (log ++ e ∷ []) r u
later t log s e r u stays other more more' share h = record {
  terms = h.terms;
  there = stays u.view.number u.view.worker (own_count u share) h.there;
  known = known_more u.view.number u.view.log log e (other u.view.number (own_count u share)) h.known;
  guest = λ g is. (let k = h.guest g is in let its = guest_own u g is share in record { there = stays g.number g.worker its k.there; known = known_more g.number g.log log e (other g.number its) k.known });
  no_piece = λ m. (let p = h.no_piece m in omega arith);
  no_number = λ m. (let p = h.no_number m in omega arith);
}

abbrev pub seat : View → SeatState
seat w = record { view = w; guest = None }

module _ (t : Terms) (log : List Event) (s : Core) (vs : List SeatState) (h : Stands t log s vs) (id : ℕ) (v : SeatState) (at : get_elem? vs id ≡ some v) (share : 1 ≤ v.view.share) where
  mine : ViewHolds t log s v
  mine = h.holds id v at share

  sound : Sound t s
  sound = sound_runs t (opening t) log s (sound_opening t) h.reached

  once : (n : ℕ) → sum_by (seat_count n) vs ≤ 1
  once n = let p = presence_most (worker_at s.workers n) in let q = h.one_seat n in omega arith

  -- another seat has none of this one's workers
  apart : (j : ℕ) (u : SeatState) (n : ℕ) → get_elem? vs j ≡ some u → j ≢ id → 1 ≤ seat_count n v → seat_count n u ≡ 0
  apart j u n there other has = let p = two_parts (seat_count n) vs id j v u at there other in let q = once n in omega arith

  differ : (j : ℕ) (u : SeatState) (n m : ℕ) → get_elem? vs j ≡ some u → j ≢ id → 1 ≤ seat_count n v → 1 ≤ seat_count m u → n ≢ m
  differ j u n m there other has has' is = let z = apart j u n there other has in let e : seat_count n u ≡ seat_count m u = ap (λ (k : ℕ). seat_count k u) is in omega arith

  own : 1 ≤ seat_count v.view.number v
  own = own_count v share

  stays : (o : Option Worker) (j : ℕ) (u : SeatState) → get_elem? vs j ≡ some u → j ≢ id → (m : ℕ) (x : Worker) → 1 ≤ seat_count m u → Has s m x → worker_at (set s.workers v.view.number o) m ≡ Some x
  stays o j u there other m x has is = at_else s.workers v.view.number m o (λ e. differ j u v.view.number m there other own has (sym e)) ∙ is

  not_maker : (e : Event) → maker e ≡ v.view.number → (j : ℕ) (u : SeatState) → get_elem? vs j ≡ some u → j ≢ id → (m : ℕ) → 1 ≤ seat_count m u → maker e ≢ m
  not_maker e by j u there other m has is = differ j u v.view.number m there other own has (sym by ∙ is)

  -- the count of pieces is above all that this seat has, and nobody has that piece
  pieces_rise : (x : ℕ) → s.claimed ≤ x → count_by (λ y. eqb y x) v.view.worker.pieces ≡ 0
  pieces_rise x past = let p = part_of (λ w. count_by (λ y. eqb y x) w.pieces) s.workers v.view.number v.view.worker mine.there in let o : piece_holders s x ≡ 0 = (sound.pieces x).1 (omega arith) in omega arith

  numbers_rise : (x : ℕ) → s.taken ≤ x → count_by (λ y. eqb y x) v.view.worker.numbers ≡ 0
  numbers_rise x past = let p = part_of (λ w. count_by (λ y. eqb y x) w.numbers) s.workers v.view.number v.view.worker mine.there in let o : number_holders s x ≡ 0 = (sound.numbers x).1 (omega arith) in omega arith

  -- what the event tells
  made : (e : Event) (is : Core → Type 0) (r : Core) → is s → Steps t s e r → Made v.view.terms v.view e is r (log ++ e ∷ [])
  made e is r moment one = subst (λ (u : Terms). Made u v.view e is r (log ++ e ∷ [])) (sym mine.terms) (record {
    between = mine.known.0;
    others = mine.known.2;
    log_is = ap (λ (l : List Event). l ++ e ∷ []) (sym mine.known.1);
    before = s;
    reached = subst (λ (l : List Event). Runs t (opening t) l s) (sym mine.known.1) h.reached;
    was = mine.there;
    step = one;
    moment = moment;
  })

  -- the state after an event of this seat's worker alone
  abbrev next : ℕ → ℕ → Option ℕ → View → Core
  next a b l w = record { claimed = a; taken = b; least = l; workers = set s.workers v.view.number (Some w.worker) }

  here : (a b : ℕ) (l : Option ℕ) (w : View) → Has (next a b l w) v.view.number w.worker
  here a b l w = at_here s.workers v.view.number (Some w.worker) v.view.worker mine.there

  stands : (e : Event) (a b : ℕ) (l : Option ℕ) (w : View) → v.guest ≡ None → maker e ≡ v.view.number → w.number ≡ v.view.number → w.share ≡ v.view.share → w.terms ≡ v.view.terms → w.log ≡ log ++ e ∷ []
      → s.claimed ≤ a → s.taken ≤ b → (w.no_piece_left ≡ true → t.pieces ≤ a) → (w.no_number_left ≡ true → t.budget ≤ b)
      → max a t.pieces + claiming (seat w) ≤ max s.claimed t.pieces + claiming v → max b t.budget + taking (seat w) ≤ max s.taken t.budget + taking v
      → Steps t s e (next a b l w) → Stands t (log ++ e ∷ []) (next a b l w) (set vs id (seat w))
  stands e a b l w alone by number same terms log_is more more' no_piece no_number claims takes one = let r : Core = next a b l w in let z : SeatState = seat w in record {
    few_pieces = h.few_pieces;
    few_numbers = h.few_numbers;
    reached = runs_snoc t (opening t) s r log e h.reached one;
    holds = all_put (λ u. 1 ≤ u.view.share → ViewHolds t (log ++ e ∷ []) r u) vs id z
        (λ j u there other part. later t log s e r u (stays (Some w.worker) j u there other) (not_maker e by j u there other) more more' part (h.holds j u there part))
        (λ part. record {
          terms = terms ∙ mine.terms;
          there = subst (λ (n : ℕ). Has r n w.worker) (sym number) (here a b l w);
          known = known_now w.number w.log (log ++ e ∷ []) log_is;
          guest = λ g is. absurd (not_none g is);
          no_piece = no_piece;
          no_number = no_number;
        });
    one_seat = λ n. (let p = total_put (seat_count n) vs id v z at in let o = h.one_seat n in let was = seat_some n v share in let now = seat_some n z (omega arith) in
        let guest : guest_count v.guest n ≡ 0 = guests n v.guest None alone in let same_hit : hit w.number n ≡ hit v.view.number n = ap (λ (k : ℕ). hit k n) number in
        let there = presence_set s.workers v.view.number v.view.worker w.worker n mine.there in omega arith);
    whole = (id, z, put_here vs id v z at, omega arith, inl log_is);
    shares = let p = total_put (λ (u : SeatState). u.view.share) vs id v z at in let was = h.shares in omega arith;
    claims = let p = total_put claiming vs id v z at in let was = h.claims in omega arith;
    takes = let p = total_put taking vs id v z at in let was = h.takes in omega arith;
  }

  claiming_some : v.view.no_piece_left ≡ false → claiming v ≡ v.view.share
  claiming_some e = ap (λ (b : Bool). cond {A = ℕ} b 0 v.view.share) e

  taking_some : v.view.no_number_left ≡ false → taking v ≡ v.view.share
  taking_some e = ap (λ (b : Bool). cond {A = ℕ} b 0 v.view.share) e

  pub claims_piece : v.guest ≡ None → v.view.no_piece_left ≡ false → (w : View) × Stands t (log ++ Claim v.view.number ∷ []) (next (s.claimed + 1) s.taken s.least w) (set vs id (seat w)) × Claimed v.view s.claimed w
  claims_piece alone raises = let e : Event = Claim v.view.number in let log' : List Event = log ++ e ∷ [] in let a : ℕ = s.claimed in let budget : v.view.terms.pieces ≡ t.pieces = ap (λ (u : Terms). u.pieces) mine.terms in
      let free : piece_holders s a ≡ 0 = (sound.pieces a).1 (omega arith) in dite (dec_le t.pieces a)
      (λ past. let w : View = record v.view { no_piece_left = true; log = log' } in let r : Core = next (a + 1) s.taken s.least w in let c = claiming_some raises in
      let one : Steps t s e r = (v.view.worker, w.worker, mine.there, ((λ l. absurd (omega arith)), λ _. refl), refl) in (
        w,
        stands e (a + 1) s.taken s.least w alone refl refl refl refl refl (omega arith) (omega arith) (λ _. omega arith) mine.no_number (omega arith) (omega arith) one,
        record { piece = λ l. absurd (omega arith); none_left = λ _. refl; rising = pieces_rise; event = (r, here (a + 1) s.taken s.least w, made e (λ s. (s.claimed ≡ a) × (piece_holders s a ≡ 0)) r (refl, free) one) },
      ))
      (λ not_past. let room : a < t.pieces = lt_of_not-le not_past in let w : View = record v.view { worker = record v.view.worker { pieces = v.view.worker.pieces ++ a ∷ [] }; log = log' } in let r : Core = next (a + 1) s.taken s.least w in
      let one : Steps t s e r = (v.view.worker, w.worker, mine.there, ((λ _. refl), λ l. absurd (not_past l)), refl) in (
        w,
        stands e (a + 1) s.taken s.least w alone refl refl refl refl refl (omega arith) (omega arith) (λ m. (let n = mine.no_piece m in omega arith)) mine.no_number (omega arith) (omega arith) one,
        record { piece = λ _. refl; none_left = λ l. absurd (omega arith); rising = pieces_rise; event = (r, here (a + 1) s.taken s.least w, made e (λ s. (s.claimed ≡ a) × (piece_holders s a ≡ 0)) r (refl, free) one) },
      ))

  pub takes_number : v.guest ≡ None → v.view.no_number_left ≡ false → (w : View) × Stands t (log ++ Take v.view.number ∷ []) (next s.claimed (s.taken + 1) s.least w) (set vs id (seat w)) × Took v.view s.taken w
  takes_number alone raises = let e : Event = Take v.view.number in let log' : List Event = log ++ e ∷ [] in let b : ℕ = s.taken in let budget : v.view.terms.budget ≡ t.budget = ap (λ (u : Terms). u.budget) mine.terms in
      let free : number_holders s b ≡ 0 = (sound.numbers b).1 (omega arith) in dite (dec_le t.budget b)
      (λ past. let w : View = record v.view { no_number_left = true; log = log' } in let r : Core = next s.claimed (b + 1) s.least w in let c = taking_some raises in
      let one : Steps t s e r = (v.view.worker, w.worker, mine.there, ((λ l. absurd (omega arith)), λ _. refl), refl) in (
        w,
        stands e s.claimed (b + 1) s.least w alone refl refl refl refl refl (omega arith) (omega arith) mine.no_piece (λ _. omega arith) (omega arith) (omega arith) one,
        record { number = λ l. absurd (omega arith); none_left = λ _. refl; rising = numbers_rise; event = (r, here s.claimed (b + 1) s.least w, made e (λ s. (s.taken ≡ b) × (number_holders s b ≡ 0)) r (refl, free) one) },
      ))
      (λ not_past. let room : b < t.budget = lt_of_not-le not_past in let w : View = record v.view { worker = record v.view.worker { numbers = v.view.worker.numbers ++ b ∷ [] }; log = log' } in let r : Core = next s.claimed (b + 1) s.least w in
      let one : Steps t s e r = (v.view.worker, w.worker, mine.there, ((λ _. refl), λ l. absurd (not_past l)), refl) in (
        w,
        stands e s.claimed (b + 1) s.least w alone refl refl refl refl refl (omega arith) (omega arith) mine.no_piece (λ m. (let n = mine.no_number m in omega arith)) (omega arith) (omega arith) one,
        record { number = λ _. refl; none_left = λ l. absurd (omega arith); rising = numbers_rise; event = (r, here s.claimed (b + 1) s.least w, made e (λ s. (s.taken ≡ b) × (number_holders s b ≡ 0)) r (refl, free) one) },
      ))

  pub posts_cost : (c : ℕ) → v.guest ≡ None → (w : View) × Stands t (log ++ Post v.view.number c ∷ []) (next s.claimed s.taken (lesser s.least (Some c)) w) (set vs id (seat w)) × Posted v.view c w
  posts_cost c alone = let e : Event = Post v.view.number c in let l : Option ℕ = lesser s.least (Some c) in let w : View = record v.view { worker = after_post s.least c v.view.worker; log = log ++ e ∷ [] } in let r : Core = next s.claimed s.taken l w in
      let one : Steps t s e r = (v.view.worker, mine.there, refl) in (
        w,
        stands e s.claimed s.taken l w alone refl refl refl refl refl (omega arith) (omega arith) mine.no_piece mine.no_number (omega arith) (omega arith) one,
        record {
          least = s.least;
          now = refl;
          no_rise = at_most_trans l s.least v.view.worker.seen (lesser_left s.least (Some c)) (sound.each v.view.number v.view.worker mine.there).1;
          event = (r, here s.claimed s.taken l w, made e (λ z. z.least ≡ s.least) r refl one);
        },
      )

  pub reads_cost : v.guest ≡ None → (w : View) × Stands t (log ++ Read v.view.number ∷ []) (next s.claimed s.taken s.least w) (set vs id (seat w)) × Looked v.view s.least w
  reads_cost alone = let e : Event = Read v.view.number in let w : View = record v.view { worker = record v.view.worker { seen = s.least }; log = log ++ e ∷ [] } in let r : Core = next s.claimed s.taken s.least w in
      let one : Steps t s e r = (v.view.worker, mine.there, refl) in (
        w,
        stands e s.claimed s.taken s.least w alone refl refl refl refl refl (omega arith) (omega arith) mine.no_piece mine.no_number (omega arith) (omega arith) one,
        record {
          now = refl;
          no_rise = (sound.each v.view.number v.view.worker mine.there).1;
          within_start = subst (λ (u : Terms). AtMost s.least u.start) (sym mine.terms) sound.start;
          event = (r, here s.claimed s.taken s.least w, made e (λ z. z.least ≡ s.least) r refl one);
        },
      )

  -- a new worker comes, as the guest of this seat
  pub splits_worker : v.guest ≡ None → (log' : List Event) → log' ≡ log ++ Split v.view.number ∷ []
      → Stands t log' (record s { workers = s.workers ++ Some (newcomer v.view.worker.seen) ∷ [] }) (set vs id (record { view = record v.view { log = log' }; guest = Some (record { number = length s.workers; worker = newcomer v.view.worker.seen; log = log' }) }))
      × Parted v.view (length s.workers) log'
  splits_worker alone log' is = let e : Event = Split v.view.number in let x : Worker = newcomer v.view.worker.seen in let n : ℕ = length s.workers in let ws : List (Option Worker) = s.workers ++ Some x ∷ [] in
      let r : Core = record s { workers = ws } in let g : Guest = record { number = n; worker = x; log = log' } in let z : SeatState = record { view = record v.view { log = log' }; guest = Some g } in
      let one : Steps t s e r = (v.view.worker, mine.there, refl) in
      let there : Has r v.view.number v.view.worker = at_longer s.workers (Some x ∷ []) v.view.number v.view.worker mine.there in
      let kept : ViewHolds t log' r z = record {
        terms = mine.terms;
        there = there;
        known = known_now v.view.number log' log' refl;
        guest = λ g' its. subst (λ (y : Guest). GuestHolds log' r y) (some_same g g' its) (record { there = at_end s.workers (Some x); known = known_now n log' log' refl });
        no_piece = mine.no_piece;
        no_number = mine.no_number;
      } in (
        record {
          few_pieces = h.few_pieces;
          few_numbers = h.few_numbers;
          reached = subst (λ (l : List Event). Runs t (opening t) l r) (sym is) (runs_snoc t (opening t) s r log e h.reached one);
          holds = all_put (λ u. 1 ≤ u.view.share → ViewHolds t log' r u) vs id z
              (λ j u beside other part. subst (λ (l : List Event). ViewHolds t l r u) (sym is)
              (later t log s e r u (λ m y has its. at_longer s.workers (Some x ∷ []) m y its) (not_maker e refl j u beside other) (omega arith) (omega arith) part (h.holds j u beside part)))
              (λ _. kept);
          one_seat = λ m. (let p = total_put (seat_count m) vs id v z at in let o = h.one_seat m in let was = seat_some m v share in let now = seat_some m z share in
              let none : guest_count v.guest m ≡ 0 = guests m v.guest None alone in let there = presence_snoc s.workers x m in omega arith);
          whole = (id, z, put_here vs id v z at, share, inl refl);
          shares = let p = total_put (λ (u : SeatState). u.view.share) vs id v z at in let was = h.shares in omega arith;
          claims = let p = total_put claiming vs id v z at in let was = h.claims in omega arith;
          takes = let p = total_put taking vs id v z at in let was = h.takes in omega arith;
        },
        record {
          after = r;
          left = there;
          right = at_end s.workers (Some x);
          event = subst (λ (l : List Event). Made v.view.terms v.view e (λ s'. (w : Worker) → Has s' n w → ⊥) r l) (sym is) (made e (λ s'. (w : Worker) → Has s' n w → ⊥) r (λ w its. not_none w (sym (past_end s.workers n (omega arith)) ∙ its)) one);
        },
      )

  -- the guest gets a seat of its own, with one half of the share
  pub seats_guest : (g : Guest) → v.guest ≡ Some g → 2 ≤ v.view.share → Stands t log s (set vs id (host_state v) ++ guest_state v ∷ [])
  seats_guest g is two = let l : SeatState = host_state v in let r : SeatState = guest_state_of v.view (Some g) in let one : List SeatState = set vs id l in let its = mine.guest g is in
      let same : guest_state v ≡ r = ap (guest_state_of v.view) is in
      let left_share : 1 ≤ l.view.share = omega arith in let right_share : 1 ≤ r.view.share = omega arith in
      let last : get_elem? (one ++ r ∷ []) (length one) ≡ some r = places.at_last one r in
      subst (λ (z : SeatState). Stands t log s (one ++ z ∷ [])) (sym same) (record {
        few_pieces = h.few_pieces;
        few_numbers = h.few_numbers;
        reached = h.reached;
        holds = all_snoc (λ u. 1 ≤ u.view.share → ViewHolds t log s u) one r
            (all_put (λ u. 1 ≤ u.view.share → ViewHolds t log s u) vs id l (λ j u beside other. h.holds j u beside)
            (λ _. record { terms = mine.terms; there = mine.there; known = mine.known; guest = λ g' some_guest. absurd (not_none g' some_guest); no_piece = mine.no_piece; no_number = mine.no_number }))
            (λ _. record { terms = mine.terms; there = its.there; known = its.known; guest = λ g' some_guest. absurd (not_none g' some_guest); no_piece = mine.no_piece; no_number = mine.no_number });
        one_seat = λ m. (let p = total_put (seat_count m) vs id v l at in let q = sum_by_push (seat_count m) one r in let o = h.one_seat m in
            let was = seat_some m v share in let now = seat_some m l left_share in let now' = seat_some m r right_share in let g_count : guest_count v.guest m ≡ hit g.number m = guests m v.guest (Some g) is in omega arith);
        whole = let w = h.whole in dite (ℕ_discrete w.0 id)
            (λ here. let mine_too : v ≡ w.1 = some-injective v w.1 (sym at ∙ subst (λ (i : ℕ). get_elem? vs i ≡ some w.1) here w.2) in let knows : KnowsAll log v = subst (KnowsAll log) (sym mine_too) w.4 in
            ⊎_elim
            (λ (k : v.view.log ≡ log). (id, l, places.at_longer one (r ∷ []) id l (put_here vs id v l at), left_share, inl k))
            (λ (k : (y : Guest) × (v.guest ≡ Some y) × (y.log ≡ log)). (length one, r, last, right_share, inl (ap (λ (y : Guest). y.log) (some_same g k.0 (sym is ∙ k.1)) ∙ k.2)))
            knows)
            (λ other. (w.0, w.1, places.at_longer one (r ∷ []) w.0 w.1 (places.set_else vs id w.0 l other ∙ w.2), w.3, w.4));
        shares = let p = total_put (λ (u : SeatState). u.view.share) vs id v l at in let q = sum_by_push (λ (u : SeatState). u.view.share) one r in let was = h.shares in omega arith;
        claims = let p = total_put claiming vs id v l at in let q = sum_by_push claiming one r in let was = h.claims in let halves = halved v.view.no_piece_left v.view.share in omega arith;
        takes = let p = total_put taking vs id v l at in let q = sum_by_push taking one r in let was = h.takes in let halves = halved v.view.no_number_left v.view.share in omega arith;
      })
    where
      halved : (mark : Bool) (n : ℕ) → cond mark 0 (n - n / 2) + cond mark 0 (n / 2) ≡ cond mark 0 n
      halved true n = refl
      halved false n = omega arith

  -- the worker of another seat becomes the guest of this one
  pub hosts_worker : v.guest ≡ None → (other : ℕ) (u : SeatState) → ¬ (other ≡ id) → get_elem? (set vs id (hosting_state v u)) other ≡ some u → 1 ≤ u.view.share → u.guest ≡ None
      → Stands t log s (set (set vs id (hosting_state v u)) other spent_state)
  hosts_worker alone other u elsewhere beside part alone' = let z : SeatState = hosting_state v u in let one : List SeatState = set vs id z in
      let was_there : get_elem? vs other ≡ some u = sym (places.set_else vs id other z elsewhere) ∙ beside in
      let theirs = h.holds other u was_there part in
      let g : Guest = record { number = u.view.number; worker = u.view.worker; log = u.view.log } in
      let z_share : 1 ≤ z.view.share = omega arith in
      let elsewhere' : ¬ (id ≡ other) = λ e. elsewhere (sym e) in
      let z_there : get_elem? (set one other spent_state) id ≡ some z = places.set_else one other id spent_state elsewhere' ∙ put_here vs id v z at in
      let kept : ViewHolds t log s z = record {
        terms = mine.terms;
        there = mine.there;
        known = mine.known;
        guest = λ g' its. subst (λ (y : Guest). GuestHolds log s y) (some_same g g' its) (record { there = theirs.there; known = theirs.known });
        no_piece = marked v.view.no_piece_left u.view.no_piece_left (t.pieces ≤ s.claimed) mine.no_piece theirs.no_piece;
        no_number = marked v.view.no_number_left u.view.no_number_left (t.budget ≤ s.taken) mine.no_number theirs.no_number;
      } in record {
        few_pieces = h.few_pieces;
        few_numbers = h.few_numbers;
        reached = h.reached;
        holds = all_put (λ y. 1 ≤ y.view.share → ViewHolds t log s y) one other spent_state
            (λ j y there apart_j. all_put (λ y. 1 ≤ y.view.share → ViewHolds t log s y) vs id z (λ j y there' apart'. h.holds j y there') (λ _. kept) j y there)
            (λ none. absurd (omega arith));
        one_seat = λ m. (let p = total_put (seat_count m) vs id v z at in let q = total_put (seat_count m) one other u spent_state beside in let o = h.one_seat m in
            let a = seat_some m v share in let b = seat_some m u part in let c = seat_some m z z_share in let d = seat_spent m spent_state refl in
            let e : guest_count v.guest m ≡ 0 = guests m v.guest None alone in let f : guest_count u.guest m ≡ 0 = guests m u.guest None alone' in omega arith);
        whole = let w = h.whole in dite (ℕ_discrete w.0 id)
            (λ here. let same : v ≡ w.1 = some-injective v w.1 (sym at ∙ subst (λ (i : ℕ). get_elem? vs i ≡ some w.1) here w.2) in let knows : KnowsAll log v = subst (KnowsAll log) (sym same) w.4 in
            ⊎_elim
            (λ (k : v.view.log ≡ log). (id, z, z_there, z_share, inl k))
            (λ (k : (y : Guest) × (v.guest ≡ Some y) × (y.log ≡ log)). absurd (not_none k.0 (sym alone ∙ k.1)))
            knows)
            (λ not_here. dite (ℕ_discrete w.0 other)
            (λ there. let same : u ≡ w.1 = some-injective u w.1 (sym was_there ∙ subst (λ (i : ℕ). get_elem? vs i ≡ some w.1) there w.2) in let knows : KnowsAll log u = subst (KnowsAll log) (sym same) w.4 in
            ⊎_elim
            (λ (k : u.view.log ≡ log). (id, z, z_there, z_share, inr (g, refl, k)))
            (λ (k : (y : Guest) × (u.guest ≡ Some y) × (y.log ≡ log)). absurd (not_none k.0 (sym alone' ∙ k.1)))
            knows)
            (λ not_there. (w.0, w.1, places.set_else one other w.0 spent_state not_there ∙ (places.set_else vs id w.0 z not_here ∙ w.2), w.3, w.4)));
        shares = let p = total_put (λ (y : SeatState). y.view.share) vs id v z at in let q = total_put (λ (y : SeatState). y.view.share) one other u spent_state beside in let was = h.shares in omega arith;
        claims = let p = total_put claiming vs id v z at in let q = total_put claiming one other u spent_state beside in let was = h.claims in let both = united v.view.no_piece_left u.view.no_piece_left v.view.share u.view.share in omega arith;
        takes = let p = total_put taking vs id v z at in let q = total_put taking one other u spent_state beside in let was = h.takes in let both = united v.view.no_number_left u.view.no_number_left v.view.share u.view.share in omega arith;
      }
    where
      marked : (x y : Bool) (P : Type 0) → (x ≡ true → P) → (y ≡ true → P) → (x || y) ≡ true → P
      marked true y P l r e = l refl
      marked false y P l r e = r e

      united : (x y : Bool) (m n : ℕ) → cond (x || y) 0 (m + n) ≤ cond x 0 m + cond y 0 n
      united true true m n = omega arith
      united true false m n = omega arith
      united false true m n = omega arith
      united false false m n = omega arith

  -- the guest is joined into this seat's worker
  pub joins_guest : (g : Guest) → v.guest ≡ Some g → (w : View) → w ≡ record v.view { worker = joined v.view.worker g.worker; log = log ++ Join v.view.number g.number ∷ [] }
      → (r : Core) × (r.claimed ≡ s.claimed) × (r.taken ≡ s.taken) × (r.least ≡ s.least) × Stands t w.log r (set vs id (seat w)) × United v.view g.number g.worker g.log w.log
  joins_guest g is w w_is = let n : ℕ = v.view.number in let m : ℕ = g.number in let e : Event = Join n m in let x : Worker = joined v.view.worker g.worker in let its = mine.guest g is in
      let w' : View = record v.view { worker = x; log = log ++ e ∷ [] } in let z : SeatState = seat w' in
      let half : List (Option Worker) = set s.workers n (Some x) in let r : Core = record s { workers = set half m None } in
      let apart_names : m ≢ n = λ same. (let c = seat_some n v share in let k : guest_count v.guest n ≡ hit m n = guests n v.guest (Some g) is in let a = hit_same n n refl in let b = hit_same m n same in
      let p = Rattle.incumbent_word.proofs.Workers.one_part (seat_count n) vs id v at in let q = once n in omega arith) in
      let one : Steps t s e r = (v.view.worker, g.worker, mine.there, its.there, apart_names, refl) in
      let m_there : worker_at half m ≡ Some g.worker = at_else s.workers n m (Some x) apart_names ∙ its.there in
      let there : Has r n x = at_else half m n None (λ k. apart_names (sym k)) ∙ at_here s.workers n (Some x) v.view.worker mine.there in
      let gone : (y : Worker) → Has r m y → ⊥ = λ y k. not_none y (sym (at_here half m None g.worker m_there) ∙ k) in
      let log' : List Event = log ++ e ∷ [] in
      let has_m : 1 ≤ seat_count m v = guest_own v g is share in
      let stands' : Stands t log' r (set vs id z) = record {
        few_pieces = h.few_pieces;
        few_numbers = h.few_numbers;
        reached = runs_snoc t (opening t) s r log e h.reached one;
        holds = all_put (λ u. 1 ≤ u.view.share → ViewHolds t log' r u) vs id z
            (λ j u beside other part. later t log s e r u
            (λ k y has here_y. at_else half m k None (λ q. differ j u m k beside other has_m has (sym q)) ∙ stays (Some x) j u beside other k y has here_y)
            (not_maker e refl j u beside other) (omega arith) (omega arith) part (h.holds j u beside part))
            (λ _. record { terms = mine.terms; there = there; known = known_now n log' log' refl; guest = λ g' some_guest. absurd (not_none g' some_guest); no_piece = mine.no_piece; no_number = mine.no_number });
        one_seat = λ k. (let p = total_put (seat_count k) vs id v z at in let o = h.one_seat k in let was = seat_some k v share in let now = seat_some k z share in let c : guest_count v.guest k ≡ hit m k = guests k v.guest (Some g) is in
            let a = presence_gone half m g.worker k m_there in let b = presence_set s.workers n v.view.worker x k mine.there in omega arith);
        whole = (id, z, put_here vs id v z at, share, inl refl);
        shares = let p = total_put (λ (u : SeatState). u.view.share) vs id v z at in let was = h.shares in omega arith;
        claims = let p = total_put claiming vs id v z at in let was = h.claims in omega arith;
        takes = let p = total_put taking vs id v z at in let was = h.takes in omega arith;
      } in
      let tells : United v.view m g.worker g.log log' = record {
        after = r;
        is = there;
        gone = gone;
        event = made e (λ s'. Has s' m g.worker) r its.there one;
        both_known = (its.known.0, ap (λ (l : List Event). l ++ e ∷ []) (sym its.known.1), its.known.2);
      } in (r, refl, refl, refl, subst (λ (y : View). Stands t y.log r (set vs id (seat y))) (sym w_is) stands', subst (λ (y : View). United v.view m g.worker g.log y.log) (sym w_is) tells)
