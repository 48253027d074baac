-- What the calls of a put may leave.
use Rattle.std.proofs.Math.Seq.{drop-cons}
use Rattle.std.proofs.Common.{get_or, suc, ◌≡◌, ◌≢◌, ◌⊎◌, ℕ, ◌+◌, ◌<◌, ◌≤◌, List, [], ◌∷◌, ◌++◌, length, take, drop, sym, ap, ◌∙◌, append_assoc, length-append, inl, inr, arith}
use Rattle.std.proofs.lemmas.Bool.{cases_eq}
use Rattle.std.proofs.lemmas.List.{take-append-drop, take_at, drop_at}
use Rattle.desk_disk.specs.Stops.{DiskPassage, over, Torn, DiskStart, MayRead, MayLeave}
use Rattle.amend_journal.specs.Format.{ClosedAfter}

-- the bytes up to a place, one more, and the rest
front_and_rest : (c front : List ℕ) (g at : ℕ) → take (at + 1) c ≡ front ++ g ∷ [] → c ≡ front ++ g ∷ drop (at + 1) c
front_and_rest c front g at same =
    sym (take-append-drop (at + 1) c) ∙ ap (λ (l : List ℕ). l ++ drop (at + 1) c) same ∙ append_assoc front (g ∷ []) (drop (at + 1) c)

take_gate : (front behind : List ℕ) (g at : ℕ) → length front ≡ at → take (at + 1) (front ++ g ∷ behind) ≡ front ++ g ∷ []
take_gate front behind g at is =
    ap (take (at + 1)) (sym (append_assoc front (g ∷ []) behind))
    ∙ take_at (front ++ g ∷ []) behind (at + 1) (omega (arith, length-append front (g ∷ []), is))

pub drop_gate : (front behind : List ℕ) (g at : ℕ) → length front ≡ at → drop (at + 1) (front ++ g ∷ behind) ≡ behind
drop_gate front behind g at is =
    ap (drop (at + 1)) (sym (append_assoc front (g ∷ []) behind))
    ∙ drop_at (front ++ g ∷ []) behind (at + 1) (omega (arith, length-append front (g ∷ []), is))

first_of : (c : List ℕ) (n : ℕ) → n < length c → (x : ℕ) × (drop n c ≡ x ∷ drop (n + 1) c)
first_of c n lt = (get_or c n 0, drop-cons c n 0 lt ∙ ap (λ (k : ℕ). get_or c n 0 ∷ drop k c) (let e : suc n ≡ n + 1 = omega arith in e))

-- no gate is open behind the block, or only the one of the put slot
abbrev pub Either : List ℕ → List ℕ → List ℕ → Type 0
Either block pair c = ClosedAfter block c ⊎ ClosedAfter (block ++ 1 ∷ pair) c

module _ (block pair : List ℕ) (at : ℕ) (here : length block ≡ at) where
  -- a write behind the gate that a stop cut short
  torn_body : (n : ℕ) (d c : List ℕ) → ClosedAfter block d → Torn (at + 1) n d c → ClosedAfter block c
  torn_body n d c stands torn = record {
    gate = stands.gate;
    closed = stands.closed;
    at = record {
      behind = drop (at + 1) c;
      is = front_and_rest c block stands.gate at (torn.front ∙ ap (take (at + 1)) stands.at.is ∙ take_gate block stands.at.behind stands.gate at here);
    };
  }

  -- the slot stands behind a closed gate, with a closed gate behind it
  record Laid (c : List ℕ) : Type 0 where
    pub gate : ℕ
    pub behind : List ℕ
    pub closed : gate ≢ 1
    pub is : c ≡ block ++ gate ∷ (pair ++ 0 ∷ behind)

  wrote_body : (d c : List ℕ) → ClosedAfter block d → c ≡ over d (at + 1) (pair ++ 0 ∷ []) → Laid c
  wrote_body d c stands written = record {
    gate = stands.gate;
    behind = drop (at + 1 + length (pair ++ 0 ∷ [])) d;
    closed = stands.closed;
    is = written
        ∙ ap (λ (l : List ℕ). l ++ ((pair ++ 0 ∷ []) ++ drop (at + 1 + length (pair ++ 0 ∷ [])) d)) (ap (take (at + 1)) stands.at.is ∙ take_gate block stands.at.behind stands.gate at here)
        ∙ append_assoc block (stands.gate ∷ []) ((pair ++ 0 ∷ []) ++ drop (at + 1 + length (pair ++ 0 ∷ [])) d)
        ∙ ap (λ (l : List ℕ). block ++ stands.gate ∷ l) (append_assoc pair (0 ∷ []) (drop (at + 1 + length (pair ++ 0 ∷ [])) d));
  }

  laid_stands : (c : List ℕ) → Laid c → ClosedAfter block c
  laid_stands c r = record { gate = r.gate; closed = r.closed; at = record { behind = pair ++ 0 ∷ r.behind; is = r.is } }

  opened : (c behind : List ℕ) → c ≡ block ++ 1 ∷ (pair ++ 0 ∷ behind) → ClosedAfter (block ++ 1 ∷ pair) c
  opened c behind is = record {
    gate = 0;
    closed = λ e. absurd (omega (arith, e));
    at = record { behind = behind; is = is ∙ sym (append_assoc block (1 ∷ pair) (0 ∷ behind)) };
  }

  wrote_gate : (d c : List ℕ) → Laid d → c ≡ over d at (1 ∷ []) → ClosedAfter (block ++ 1 ∷ pair) c
  wrote_gate d c r written = opened c r.behind
      (written
      ∙ ap (λ (l : List ℕ). l ++ (1 ∷ drop (at + 1) d)) (ap (take at) r.is ∙ take_at block (r.gate ∷ (pair ++ 0 ∷ r.behind)) at here)
      ∙ ap (λ (l : List ℕ). block ++ 1 ∷ l) (ap (drop (at + 1)) r.is ∙ drop_gate block (pair ++ 0 ∷ r.behind) r.gate at here))

  torn_gate : (d c : List ℕ) → Laid d → Torn at 1 d c → Either block pair c
  torn_gate d c r torn =
      let long : at < length c = omega (arith, torn.no_shorter, ap length r.is, length-append block (r.gate ∷ (pair ++ 0 ∷ r.behind)), here) in
      let x = first_of c at long in
      let rest : drop (at + 1) c ≡ pair ++ 0 ∷ r.behind = torn.back ∙ ap (drop (at + 1)) r.is ∙ drop_gate block (pair ++ 0 ∷ r.behind) r.gate at here in
      let is : c ≡ block ++ x.0 ∷ (pair ++ 0 ∷ r.behind) =
      sym (take-append-drop at c)
      ∙ ap (λ (l : List ℕ). l ++ drop at c) (torn.front ∙ ap (take at) r.is ∙ take_at block (r.gate ∷ (pair ++ 0 ∷ r.behind)) at here)
      ∙ ap (λ (l : List ℕ). block ++ l) (x.1 ∙ ap (λ (l : List ℕ). x.0 ∷ l) rest) in
      elim (cases_eq x.0 1) [
        | inl open_gate ↦ inr (opened c r.behind (is ∙ ap (λ (y : ℕ). block ++ y ∷ (pair ++ 0 ∷ r.behind)) open_gate))
        | inr shut ↦ inl (laid_stands c (record { gate = x.0; behind = r.behind; closed = shut; is = is }))
      ]

  -- ---- the moments of a put, and what it leaves

  module _ (s : DiskStart) (log : List DiskPassage) (closed : (c : List ℕ) → MayLeave s log c → ClosedAfter block c) (among : (c : List ℕ) → MayRead s log c → MayLeave s log c) where
    abbrev pub Whole : List ℕ
    Whole = pair ++ 0 ∷ []

    abbrev pub Written : List ℕ → Type 0
    Written c = (old : List ℕ) × MayRead s log old × (at + 1 ≤ length old) × (c ≡ over old (at + 1) Whole)

    pub before : (c : List ℕ) → MayLeave s log c → Either block pair c
    before c left = inl (closed c left)

    pub in_body : (c : List ℕ) → ((old : List ℕ) × MayLeave s log old × Torn (at + 1) (length Whole) old c) → Either block pair c
    in_body c torn = inl (torn_body (length Whole) torn.0 c (closed torn.0 torn.1) torn.2)

    laid_of : (c : List ℕ) → Written c → Laid c
    laid_of c w = wrote_body w.0 c (closed w.0 (among w.0 w.1)) w.3

    pub after_body : (c : List ℕ) → Written c → Either block pair c
    after_body c w = inl (laid_stands c (laid_of c w))

    pub in_gate : (c : List ℕ) → ((old : List ℕ) × Written old × Torn at 1 old c) → Either block pair c
    in_gate c torn = torn_gate torn.0 c (laid_of torn.0 torn.1) torn.2

    pub after_gate : (c : List ℕ) → ((old : List ℕ) × Written old × (at ≤ length old) × (c ≡ over old at (1 ∷ []))) → ClosedAfter (block ++ 1 ∷ pair) c
    after_gate c w = wrote_gate w.0 c (laid_of w.0 w.1) w.3
