-- Where a reading stops: what it read before is kept whatever follows, and can be completed.
use Rattle.std.proofs.Common.{◌≡◌, ℕ, zero, suc, ◌+◌, ◌≤◌, ◌<◌, ◌⊎◌, Bool, true, false, cond, List, [], ◌∷◌, ◌++◌, length, Option, Some, None, refl, sym, ap, subst, ◌∙◌, append_assoc, length-append, Result, Ok, Err, arith, inl, inr}
use Rattle.cert_format.specs.Private.Spots.{Spot, Read, ◌>>=◌, judged, line_by_lines, line_by}
use Rattle.cert_format.specs.Private.Reading.{many}
use Rattle.cert_format.proofs.BlockLemmas.{Line, bind_ok, ok_is, Again, line_takes, line_again}

abbrev pub spot : ℕ → List Line → Spot
spot line lines = record { line = line; lines = lines }

-- both lists end, or both begin with the same line
abbrev pub SameHead : List Line → List Line → Type 0
SameHead [] [] = Unit {0}
SameHead [] (b ∷ bs) = ⊥
SameHead (a ∷ as') [] = ⊥
SameHead (a ∷ as') (b ∷ bs) = a ≡ b

-- what was read stays the same whatever follows
pub record Taken {A : Type 0} (R : Spot → Read A) (s : Spot) (x : A) (q : Spot) : Type 0 where
  pub used : List Line
  pub parts : s.lines ≡ used ++ q.lines
  pub place : q.line ≡ s.line + length used
  pub same : (other : List Line) → R (spot s.line (used ++ other)) ≡ Ok (x, spot q.line other)

-- the reading stops after the good lines at whatever begins like the rest, and the good lines can be completed
pub record Stuck {A : Type 0} (R : Spot → Read A) (s : Spot) (n : ℕ) : Type 0 where
  pub good : List Line
  pub rest : List Line
  pub parts : s.lines ≡ good ++ rest
  pub place : n ≡ s.line + length good
  pub bad : (other : List Line) → SameHead other rest → R (spot s.line (good ++ other)) ≡ Err n
  pub more : List Line
  pub value : A
  pub ends : (tail : List Line) → Again (R (spot s.line (good ++ (more ++ tail)))) value tail

-- some lines are read
pub record Fills {A : Type 0} (R : Spot → Read A) : Type 0 where
  pub more : List Line
  pub value : A
  pub reads : (s : Spot) (tail : List Line) → s.lines ≡ more ++ tail → Again (R s) value tail

-- a reader line by line
pub record Steady {A : Type 0} (R : Spot → Read A) : Type 0 where
  pub taken : (s : Spot) (x : A) (q : Spot) → R s ≡ Ok (x, q) → Taken R s x q
  pub stuck : (s : Spot) (n : ℕ) → R s ≡ Err n → Stuck R s n
  pub fills : Fills R

-- ---- nothing, and one line

abbrev pub done_read : {A : Type 0} → A → Spot → Read A
done_read x s = Ok (x, s)

done_taken : {A : Type 0} (x : A) (s : Spot) (y : A) (q : Spot) → done_read x s ≡ Ok (y, q) → Taken (done_read x) s y q
done_taken {A} x s y q e =
    let here : Taken (done_read x) s x s = record { used = []; parts = refl; place = omega arith; same = λ other. refl } in
    subst (λ (p : A × Spot). Taken (done_read x) s p.0 p.1) (ok_is {A = A × Spot} (x, s) (y, q) e) here

pub steady_done : {A : Type 0} (x : A) → Steady (done_read x)
steady_done x = record {
  taken = done_taken x;
  stuck = λ s n e. absurd (cc);
  fills = record { more = []; value = x; reads = λ s tail e. record { spot = s; reads = refl; left = e } };
}

head_bad : {A : Type 0} (f : Line → Option A) (line n : ℕ) (lines other : List Line) → line_by_lines f line lines ≡ Err n → SameHead other lines → line_by_lines f line other ≡ Err n
head_bad f line n [] [] e h = e
head_bad f line n [] (b ∷ bs) e h = absurd h
head_bad f line n (a ∷ lines) [] e h = absurd h
head_bad {A} f line n (a ∷ lines) (b ∷ bs) e h = fails (f a) (f b) (ap f h) e
  where
    fails : (o p : Option A) → p ≡ o → judged line lines o ≡ Err n → judged line bs p ≡ Err n
    fails None p same g = rw same g
    fails (Some x) p same g = absurd cc

line_place : {A : Type 0} (f : Line → Option A) (line n : ℕ) (lines : List Line) → line_by_lines f line lines ≡ Err n → n ≡ line
line_place f line n [] e = cc
line_place {A} f line n (ws ∷ rest) e = at (f ws) e
  where
    at : (o : Option A) → judged line rest o ≡ Err n → n ≡ line
    at None g = cc
    at (Some x) g = absurd cc

next_place : {A : Type 0} (f : Line → Option A) (line : ℕ) (lines : List Line) (x : A) (q : Spot) → line_by_lines f line lines ≡ Ok (x, q) → q.line ≡ line + 1
next_place f line [] x q e = absurd cc
next_place {A} f line (ws ∷ rest) x q e = at (f ws) e
  where
    at : (o : Option A) → judged line rest o ≡ Ok (x, q) → q.line ≡ line + 1
    at None g = absurd cc
    at (Some y) g = ap (λ (p : A × Spot). p.1.line) (sym (ok_is {A = A × Spot} (y, spot (line + 1) rest) (x, q) g))

-- a line that some words are
pub steady_line : {A : Type 0} (f : Line → Option A) (ws : Line) (x : A) → f ws ≡ Some x → Steady (line_by f)
steady_line {A} f ws x h = record {
  taken = λ s y q e.
      let t = line_takes f s (y, q) e in
      let place : q.line ≡ s.line + 1 = next_place f s.line s.lines y q e in
      record { used = t.words ∷ []; parts = t.parts; place = place; same = λ other. rw (t.reads, place) refl };
  stuck = λ s n e.
      let place : n ≡ s.line = line_place f s.line n s.lines e in
      record {
        good = [];
        rest = s.lines;
        parts = refl;
        place = omega (arith, place);
        bad = λ other same. head_bad f s.line n s.lines other e same;
        more = ws ∷ [];
        value = x;
        ends = λ tail. line_again f (spot s.line (ws ∷ tail)) ws tail x refl h;
      };
  fills = record { more = ws ∷ []; value = x; reads = λ s tail e. line_again f s ws tail x e h };
}

-- ---- one reader after the other

abbrev pub then_read : {A B : Type 0} → (Spot → Read A) → (A → Spot → Read B) → Spot → Read B
then_read R K s = R s >>= λ y. K y.0 y.1

pub bind_err : {A B : Type 0} (r : Result A ℕ) (f : A → Result B ℕ) (n : ℕ) → (r >>= f) ≡ Err n → (r ≡ Err n) ⊎ ((x : A) × (r ≡ Ok x) × (f x ≡ Err n))
bind_err (Ok x) f n e = inr (x, refl, e)
bind_err {A} {B} (Err line) f n e = inl (ap_err line n e)
  where
    ap_err : (a b : ℕ) → ◌≡◌ {A = Result B ℕ} (Err a) (Err b) → ◌≡◌ {A = Result A ℕ} (Err a) (Err b)
    ap_err a b g = let same : a ≡ b = cc in ap (λ (k : ℕ). Err k) same

pub bind_is : {A B : Type 0} (r : Result A ℕ) (f : A → Result B ℕ) (x : A) (y : Result B ℕ) → r ≡ Ok x → f x ≡ y → (r >>= f) ≡ y
bind_is r f x y e h = rw e h

-- what a reader is known to give
abbrev pub Post : {A : Type 0} → (Spot → Read A) → (A → Type 0) → Type 0
Post {A} R P = (s : Spot) (x : A) (q : Spot) → R s ≡ Ok (x, q) → P x

then_taken : {A B : Type 0} (P : A → Type 0) (R : Spot → Read A) (K : A → Spot → Read B) → Steady R → Post R P → ((x : A) → P x → Steady (K x))
    → (s : Spot) (z : B) (r : Spot) → then_read R K s ≡ Ok (z, r) → Taken (then_read R K) s z r
then_taken {A} P R K a post k s z r e =
    let f = bind_ok (R s) (λ y. K y.0 y.1) (z, r) e in
    let x = f.0.0 in
    let q = f.0.1 in
    let t = a.taken s x q f.1 in
    let u = (k x (post s x q f.1)).taken q z r f.2 in
    record {
      used = t.used ++ u.used;
      parts = t.parts ∙ ap (λ (ls : List Line). t.used ++ ls) u.parts ∙ sym (append_assoc t.used u.used r.lines);
      place = omega (arith, t.place, u.place, length-append t.used u.used);
      same = λ other. ap (λ (ls : List Line). then_read R K (spot s.line ls)) (append_assoc t.used u.used other)
          ∙ bind_is (R (spot s.line (t.used ++ (u.used ++ other)))) (λ y. K y.0 y.1) (x, spot q.line (u.used ++ other)) (Ok (z, spot r.line other)) (t.same (u.used ++ other)) (u.same other);
    }

-- what is read goes on with a completion of the second reader
goes_on : {A B : Type 0} (K : A → Spot → Read B) (r : Read A) (x : A) (fill : Fills (K x)) (tail : List Line) → Again r x (fill.more ++ tail) → Again (r >>= λ y. K y.0 y.1) fill.value tail
goes_on K r x fill tail p =
    let g = fill.reads p.spot tail p.left in
    record { spot = g.spot; reads = bind_is r (λ y. K y.0 y.1) (x, p.spot) (Ok (fill.value, g.spot)) p.reads g.reads; left = g.left }

then_stuck : {A B : Type 0} (P : A → Type 0) (R : Spot → Read A) (K : A → Spot → Read B) → Steady R → Post R P → ((x : A) → P x → Steady (K x))
    → (s : Spot) (n : ℕ) → then_read R K s ≡ Err n → Stuck (then_read R K) s n
then_stuck {A} {B} P R K a post k s n e =
    elim (bind_err (R s) (λ y. K y.0 y.1) n e) [
      | inl first ↦
          let b = a.stuck s n first in
          let p = b.ends [] in
          let fill = (k b.value (post (spot s.line (b.good ++ (b.more ++ []))) b.value p.spot p.reads)).fills in
          record {
            good = b.good;
            rest = b.rest;
            parts = b.parts;
            place = b.place;
            bad = λ other same. rw (b.bad other same) refl;
            more = b.more ++ fill.more;
            value = fill.value;
            ends = λ tail. subst (λ (ls : List Line). Again (then_read R K (spot s.line (b.good ++ ls))) fill.value tail) (sym (append_assoc b.more fill.more tail))
                (goes_on K (R (spot s.line (b.good ++ (b.more ++ (fill.more ++ tail))))) b.value fill tail (b.ends (fill.more ++ tail)));
          }
      | inr f ↦
          let x = f.0.0 in
          let q = f.0.1 in
          let t = a.taken s x q f.1 in
          let b = (k x (post s x q f.1)).stuck q n f.2 in
          let apart : (ls : List Line) → then_read R K (spot s.line ((t.used ++ b.good) ++ ls)) ≡ K x (spot q.line (b.good ++ ls)) =
          λ ls. ap (λ (m : List Line). then_read R K (spot s.line m)) (append_assoc t.used b.good ls)
          ∙ bind_is (R (spot s.line (t.used ++ (b.good ++ ls)))) (λ y. K y.0 y.1) (x, spot q.line (b.good ++ ls)) (K x (spot q.line (b.good ++ ls))) (t.same (b.good ++ ls)) refl in
          record {
            good = t.used ++ b.good;
            rest = b.rest;
            parts = t.parts ∙ ap (λ (ls : List Line). t.used ++ ls) b.parts ∙ sym (append_assoc t.used b.good b.rest);
            place = omega (arith, t.place, b.place, length-append t.used b.good);
            bad = λ other same. apart other ∙ b.bad other same;
            more = b.more;
            value = b.value;
            ends = λ tail. subst (λ (y : Read B). Again y b.value tail) (sym (apart (b.more ++ tail))) (b.ends tail);
          }
    ]

then_fills : {A B : Type 0} (P : A → Type 0) (R : Spot → Read A) (K : A → Spot → Read B) → Steady R → Post R P → ((x : A) → P x → Steady (K x)) → Fills (then_read R K)
then_fills P R K a post k =
    let f = a.fills in
    let p = f.reads (spot 0 (f.more ++ [])) [] refl in
    let fill = (k f.value (post (spot 0 (f.more ++ [])) f.value p.spot p.reads)).fills in
    record {
      more = f.more ++ fill.more;
      value = fill.value;
      reads = λ s tail e. goes_on K (R s) f.value fill tail (f.reads s (fill.more ++ tail) (e ∙ append_assoc f.more fill.more tail));
    }

pub steady_then_by : {A B : Type 0} (P : A → Type 0) (R : Spot → Read A) (K : A → Spot → Read B) → Steady R → Post R P → ((x : A) → P x → Steady (K x)) → Steady (then_read R K)
steady_then_by P R K a post k = record { taken = then_taken P R K a post k; stuck = then_stuck P R K a post k; fills = then_fills P R K a post k }

pub steady_then : {A B : Type 0} (R : Spot → Read A) (K : A → Spot → Read B) → Steady R → ((x : A) → Steady (K x)) → Steady (then_read R K)
steady_then {A} R K a k = steady_then_by (λ (x : A). Unit {0}) R K a (λ s x q e. tt) (λ x p. k x)

pub steady_cond : {A : Type 0} (b : Bool) (R Q : Spot → Read A) → Steady R → Steady Q → Steady (λ s. cond b (R s) (Q s))
steady_cond true R Q r q = r
steady_cond false R Q r q = q

-- items one after the other
pub steady_many : {A : Type 0} (one : ℕ → Spot → Read A) (most : ℕ) → ((i : ℕ) → i < most → Steady (one i)) → (n i : ℕ) → i + n ≤ most → Steady (many one i n)
unfolding many
steady_many one most each zero i le = steady_done []
steady_many {A} one most each (suc n) i le =
    steady_then (one i) (λ x q. many one (suc i) n q >>= λ others. Ok (x ∷ others.0, others.1)) (each i (omega arith))
    (λ x. steady_then (many one (suc i) n) (λ xs q. Ok (x ∷ xs, q)) (steady_many one most each n (suc i) (omega arith)) (λ xs. steady_done (x ∷ xs)))
