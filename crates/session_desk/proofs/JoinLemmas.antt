-- Workers paired and taken apart again.
use Rattle.std.proofs.Common.{◌≡◌, ℕ, zero, suc, ◌+◌, ◌-◌, ◌<◌, ◌≤◌, List, [], ◌∷◌, ◌++◌, length, length-append, map, reverse, take, drop, get_or, refl, sym, ap, subst, ◌∙◌, arith}
use Rattle.std.proofs.lemmas.List.{get_or-map, get_or-reverse, length-map, length-reverse, take_at}
use Rattle.std.specs.Prelude.{All}
use Rattle.std.proofs.lemmas.List.Elements.{All-get_or}
use Rattle.turn_lock.specs.History.{StartsWith, own}
use Rattle.turn_lock.specs.Seats.{TableId, SeatView, new_seat, new_seats, HasSeen, IsNumber}
use Rattle.holding_book.specs.declared.answer.Entry.{Entry}
use Rattle.slot_ledger.specs.Starts.{entry_caller}
use Rattle.slot_ledger.specs.Passes.{read_pass}
use Rattle.slot_ledger.specs.declared.shared.Start.{Start}
use Rattle.season_days.specs.declared.declaration.Declaration.{Declaration}
use Rattle.session_desk.specs.Begun.{desk_caller, ledger_caller}
use Rattle.session_desk.specs.Stopped.{StopsAt}
use Rattle.session_desk.specs.Private.Serving.{EndStopped}
use Rattle.session_desk.specs.declared.worker.DoorEnd.{DoorEnd}
use Rattle.session_desk.specs.declared.worker.DoorWork.{DoorWork}
use Rattle.session_desk.specs.declared.worker.DoorEnd.TheVariants.{Full, Broken}
use Rattle.session_desk.specs.declared.responder.AnswerFault.{AnswerFault}

pub some_of : {X : Type 0} → (xs : List X) → 0 < length xs → X
some_of [] some = absurd (omega (arith, some))
some_of (x ∷ xs) some = x

-- the place of a pair among the workers, which stand in the other order
pub paired : {W Y : Type 0} (f : W → Y) (ws : List W) (ys : List Y) (i : ℕ) (y : Y) (w : W) → reverse (map f ws) ≡ ys → i < length ws
    → get_or ys i y ≡ f (get_or ws (length ws - 1 - i) w)
paired f ws ys i y w is lt =
    ap (λ l. get_or l i y) (sym is)
    ∙ get_or-reverse (map f ws) i y (omega (arith, length-map ws f, lt))
    ∙ ap (λ n. get_or (map f ws) (n - 1 - i) y) (length-map ws f)
    ∙ get_or-map f ws (length ws - 1 - i) w y (omega (arith, lt))

pub paired-length : {W Y : Type 0} (f : W → Y) (ws : List W) (ys : List Y) → reverse (map f ws) ≡ ys → length ys ≡ length ws
paired-length f ws ys is = ap length (sym is) ∙ length-reverse (map f ws) ∙ length-map ws f

pub seat_at : {O E : Type 0} (id : TableId) (o : O) (k n i : ℕ) (d : SeatView O E) → i < n → get_or (new_seats id o k n) i d ≡ new_seat id o (k + i)
seat_at id o k zero i d lt = absurd (omega (arith, lt))
seat_at id o k (suc n) zero d lt = ap (new_seat id o) (let e : k ≡ k + 0 = omega arith in e)
seat_at id o k (suc n) (suc i) d lt = seat_at id o (suc k) n i d (omega (arith, lt)) ∙ ap (new_seat id o) (let e : suc k + i ≡ k + suc i = omega arith in e)

module _ {O E : Type 0} where
  pub new_length : (id : TableId) (o : O) (k n : ℕ) (ss : List (SeatView O E)) → ss ≡ new_seats id o k n → length ss ≡ n
  new_length id o k zero ss is = ap length is
  new_length id o k (suc n) ss is = ap length is ∙ ap suc (new_length id o (suc k) n (new_seats id o (suc k) n) refl)

cast : {V L K : Type 0} (P : ℕ → V → L → K → V → L → Type 0) (n n' : ℕ) (a a' : V) (l l' : L) (k k' : K) (b b' : V) (m m' : L) → n ≡ n' → a ≡ a' → l ≡ l' → k ≡ k' → b ≡ b' → m ≡ m' → P n a l k b m → P n' a' l' k' b' m'
cast P n n' a a' l l' k k' b b' m m' en ea el ek eb em p =
    subst (λ x. P n' a' l' k' b' x) em (subst (λ x. P n' a' l' k' x m) eb (subst (λ x. P n' a' l' x b m) ek (subst (λ x. P n' a' x k b m) el (subst (λ x. P n' x l k b m) ea (subst (λ x. P x a l k b m) en p)))))

module _ {W D O X V K : Type 0} (read : List X → List Entry) (door : W → D) (view : D → V) (seat : W → SeatView O X) (work : W → K) (P : ℕ → V → List Entry → K → V → List Entry → Type 0) where
  pub joined : (us vs : List W) (ds es : List D) (ss : List (SeatView O X)) (ks : List K) (id : TableId) (o : O) (n : ℕ) (h : List Entry)
      → read [] ≡ []
      → length vs ≡ length us → length us ≡ n
      → reverse (map door us) ≡ ds → reverse (map door vs) ≡ es → reverse (map work vs) ≡ ks
      → reverse (map seat us) ≡ new_seats id o 0 n → reverse (map seat vs) ≡ ss
      → All (λ s. HasSeen entry_caller h (read_pass read s)) ss
      → ((j : ℕ) (w : W) → j < length us → (seat (get_or vs j w)).number ≡ (seat (get_or us j w)).number)
      → ((j : ℕ) (w : W) → j < length us → P (seat (get_or us j w)).number (view (door (get_or us j w))) (read (seat (get_or us j w)).own) (work (get_or vs j w)) (view (door (get_or vs j w))) (read (seat (get_or vs j w)).own))
      → (i : ℕ) (d : D) (k : K) → i < length ds → P i (view (get_or ds i d)) [] (get_or ks i k) (view (get_or es i d)) (own entry_caller i h)
  joined us vs ds es ss ks id o n h none same count doors0 doors1 works1 seats0 seats1 seen number each i d k lt =
      let few : i < length us = omega (arith, lt, paired-length door us ds doors0) in
      let w = some_of us (omega (arith, few)) in
      let j = length us - 1 - i in
      let below : j < length us = omega (arith, few) in
      let sd = new_seat id o 0 in
      let there : i < length vs = omega (arith, few, same) in
      let place : length vs - 1 - i ≡ j = omega (arith, same) in
      let d0 = paired door us ds i d w doors0 few in
      let d1 = paired door vs es i d w doors1 there ∙ ap (λ m. door (get_or vs m w)) place in
      let k1 = paired work vs ks i k w works1 there ∙ ap (λ m. work (get_or vs m w)) place in
      let s0 = sym (paired seat us (new_seats id o 0 n) i sd w seats0 few) ∙ seat_at id o 0 n i sd (omega (arith, few, count)) in
      let s1 = paired seat vs ss i sd w seats1 there ∙ ap (λ m. seat (get_or vs m w)) place in
      let number0 : (seat (get_or us j w)).number ≡ i = ap (λ s. s.number) s0 ∙ (let e : 0 + i ≡ i = omega arith in e) in
      let own0 : read (seat (get_or us j w)).own ≡ [] = ap (λ s. read s.own) s0 ∙ none in
      let has : HasSeen entry_caller h (read_pass read (get_or ss i sd)) = All-get_or (λ s. HasSeen entry_caller h (read_pass read s)) ss i sd (omega (arith, few, same, paired-length seat vs ss seats1)) seen in
      let own1 : read (seat (get_or vs j w)).own ≡ own entry_caller i h =
      ap (λ s. read s.own) (sym s1) ∙ has.1 ∙ ap (λ m. own entry_caller m h) (ap (λ s. s.number) s1 ∙ number j w below ∙ number0) in
      cast P _ i _ (view (get_or ds i d)) _ [] _ (get_or ks i k) _ (view (get_or es i d)) _ (own entry_caller i h) number0 (ap view (sym d0)) own0 (sym k1) (ap view (sym d1)) own1 (each j w below)

  -- the workers have the numbers below n
  pub below_count : (us : List W) (id : TableId) (o : O) (n : ℕ) → length us ≡ n → reverse (map seat us) ≡ new_seats id o 0 n
      → (j : ℕ) (w : W) → j < length us → (seat (get_or us j w)).number < n
  below_count us id o n count seats0 j w lt =
      let i = length us - 1 - j in
      let few : i < length us = omega (arith, lt) in
      let place : length us - 1 - i ≡ j = omega (arith, lt) in
      let sd = new_seat id o 0 in
      let s0 = sym (paired seat us (new_seats id o 0 n) i sd w seats0 few ∙ ap (λ m. seat (get_or us m w)) place) ∙ seat_at id o 0 n i sd (omega (arith, few, count)) in
      let number0 : (seat (get_or us j w)).number ≡ 0 + i = ap (λ s. s.number) s0 in
      omega (arith, few, count, number0)

  -- and so have the passes
  pub numbered : (us vs : List W) (ss : List (SeatView O X)) (id : TableId) (o : O) (n : ℕ)
      → length vs ≡ length us → length us ≡ n → reverse (map seat us) ≡ new_seats id o 0 n → reverse (map seat vs) ≡ ss
      → ((j : ℕ) (w : W) → j < length us → (seat (get_or vs j w)).number ≡ (seat (get_or us j w)).number)
      → (m : ℕ) → IsNumber ss m → m < n
  numbered us vs ss id o n same count seats0 seats1 number m is =
      let k = is.0 in
      let there : k < length vs = omega (arith, is.2, paired-length seat vs ss seats1) in
      let few : k < length us = omega (arith, there, same) in
      let w = some_of us (omega (arith, few)) in
      let j = length us - 1 - k in
      let below : j < length us = omega (arith, few) in
      let sd = new_seat id o 0 in
      let place : length vs - 1 - k ≡ j = omega (arith, same) in
      let s0 = sym (paired seat us (new_seats id o 0 n) k sd w seats0 few) ∙ seat_at id o 0 n k sd (omega (arith, few, count)) in
      let s1 : get_or ss k is.1 ≡ seat (get_or vs j w) = paired seat vs ss k is.1 w seats1 there ∙ ap (λ m. seat (get_or vs m w)) place in
      let number0 : (seat (get_or us j w)).number ≡ k = ap (λ s. s.number) s0 ∙ (let e : 0 + k ≡ k = omega arith in e) in
      let same_number : m ≡ k = sym is.4 ∙ ap (λ s. s.number) (sym is.3 ∙ s1) ∙ number j w below ∙ number0 in
      omega (arith, few, count, same_number)

starts_length : {X : Type 0} (whole front : List X) → StartsWith whole front → length front ≤ length whole
starts_length whole front starts =
    let parts : length whole ≡ length front + length starts.0 = ap length starts.1 ∙ length-append front starts.0 in
    omega (arith, parts)

-- The pass that was given back at a place, and how its worker stopped.
stopped_at : {W O X : Type 0} (Stopped : List X → AnswerFault → Type 0) (seat : W → SeatView O X) (work : W → DoorWork) (us vs : List W) (ss : List (SeatView O X)) (ks : List DoorWork)
    → length vs ≡ length us → reverse (map work vs) ≡ ks → reverse (map seat vs) ≡ ss
    → ((j : ℕ) (w : W) → j < length us → EndStopped (Stopped (seat (get_or vs j w)).seen) (work (get_or vs j w)).end)
    → (i : ℕ) (k : DoorWork) → i < length us
    → (s : SeatView O X) × (i < length ss) × (get_or ss i s ≡ s) × EndStopped (Stopped s.seen) (get_or ks i k).end
stopped_at Stopped seat work us vs ss ks same works seats stopped i k lt =
    let there : i < length vs = omega (arith, lt, same) in
    let w = some_of vs (omega (arith, there)) in
    let j = length vs - 1 - i in
    let below : j < length us = omega (arith, there, same) in
    let s = seat (get_or vs j w) in (
      s,
      (let few : i < length ss = omega (arith, there, paired-length seat vs ss seats) in few),
      paired seat vs ss i s w seats there,
      subst (λ (x : DoorWork). EndStopped (Stopped s.seen) x.end) (sym (paired work vs ks i k w works there)) (stopped j w below),
    )

-- what holds of a pass where it ended so
ended_so : (P : AnswerFault → Type 0) (end other : DoorEnd) → end ≡ other → EndStopped P end → EndStopped P other
ended_so P end other is stopped = subst (λ (e : DoorEnd). EndStopped P e) is stopped

module _ {W O X : Type 0} (read : List X → List Entry) (broken : List X → ℕ → Type 0) (most : ℕ) (seat : W → SeatView O X) (work : W → DoorWork) (us vs : List W) (ss : List (SeatView O X)) (ks : List DoorWork)
    (same : length vs ≡ length us) (works : reverse (map work vs) ≡ ks) (seats : reverse (map seat vs) ≡ ss)
    (stopped : (j : ℕ) (w : W) → j < length us → EndStopped (StopsAt read broken most (seat (get_or vs j w)).seen) (work (get_or vs j w)).end) where
  -- the history is as long as a pass has seen it with which an ask was refused since it was full
  pub full_at_close : (h : List Entry) → All (λ s. HasSeen entry_caller h (read_pass read s)) ss → length h ≤ most
      → (i : ℕ) (k : DoorWork) → i < length us → (get_or ks i k).end ≡ Full → length h ≡ most
  full_at_close h seen few i k lt is =
      let at = stopped_at (StopsAt read broken most) seat work us vs ss ks same works seats stopped i k lt in
      let full : EndStopped (StopsAt read broken most at.0.seen) Full = ended_so (StopsAt read broken most at.0.seen) (get_or ks i k).end Full is at.3 in
      let whole : length (read at.0.seen) ≡ most = full.1 in
      let has : HasSeen entry_caller h (read_pass read (get_or ss i at.0)) = All-get_or (λ x. HasSeen entry_caller h (read_pass read x)) ss i at.0 at.1 seen in
      let begins : StartsWith h (read at.0.seen) = subst (λ (x : SeatView O X). StartsWith h (read x.seen)) at.2 has.0 in
      omega (arith, few, whole, starts_length h (read at.0.seen) begins)

  -- what is told in the end begins with what a pass has seen that says of a failure
  pub broken_at_close : (number : X → ℕ) (told : List X) → All (HasSeen number told) ss
      → (i : ℕ) (k : DoorWork) → i < length us → (get_or ks i k).end ≡ Broken → (seen : List X) × StartsWith told seen × ((faults : ℕ) × broken seen faults)
  broken_at_close number told seen i k lt is =
      let at = stopped_at (StopsAt read broken most) seat work us vs ss ks same works seats stopped i k lt in
      let has : HasSeen number told (get_or ss i at.0) = All-get_or (HasSeen number told) ss i at.0 at.1 seen in
      (at.0.seen, subst (λ (x : SeatView O X). StartsWith told x.seen) at.2 has.0, ended_so (StopsAt read broken most at.0.seen) (get_or ks i k).end Broken is at.3)

-- what holds of all passes of the workers holds of the passes taken apart
pub all_apart : {W Y : Type 0} (Q : Y → Type 0) (f : W → Y) (ws : List W) (ys : List Y) → reverse (map f ws) ≡ ys → All (λ w. Q (f w)) ws → All Q ys
all_apart Q f ws ys is all = λ i d lt.
    let few : i < length ws = omega (arith, lt, paired-length f ws ys is) in
    let w = some_of ws (omega (arith, few)) in
    subst Q (sym (paired f ws ys i d w is few)) (All-get_or (λ w. Q (f w)) ws (length ws - 1 - i) w (omega (arith, few)) all)

-- what holds of all passes holds of those of the workers
pub all_paired : {W Y : Type 0} (Q : Y → Type 0) (f : W → Y) (ws : List W) (ys : List Y) → reverse (map f ws) ≡ ys → All Q ys → All (λ w. Q (f w)) ws
all_paired Q f ws ys is all = λ j w lt.
    let i = length ws - 1 - j in
    let few : i < length ws = omega (arith, lt) in
    let place : length ws - 1 - i ≡ j = omega (arith, lt) in
    subst Q (paired f ws ys i (f w) w is few ∙ ap (λ m. f (get_or ws m w)) place) (all i (f w) (omega (arith, few, paired-length f ws ys is)))

-- the caller at a ledger that was started with this book
pub same_caller : (found was : ℕ) (start : Start) (d : Declaration) (most n : ℕ) → found ≡ was → start.declaration ≡ d → start.most ≡ most → ledger_caller found start n ≡ desk_caller d (was + most) n
same_caller found was start d most n ef ed em =
    ap (λ f. desk_caller start.declaration (f + start.most) n) ef
    ∙ ap (λ e. desk_caller e (was + start.most) n) ed
    ∙ ap (λ m. desk_caller d (was + m) n) em

-- what a slice of a whole vector wrote is the vector
pub written_back : {X : Type 0} → (vs xs : List X) (n : ℕ) → length vs ≡ length xs → n ≡ length xs → take n (vs ++ drop (length vs) xs) ≡ vs
written_back vs xs n same whole = take_at vs (drop (length vs) xs) n (omega (arith, same, whole))
