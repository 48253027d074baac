-- A list that is read part by part, and what callers have seen of it.
use Rattle.std.proofs.Common.{◌≡◌, ℕ, zero, suc, ◌<◌, eqb, get_or, Bool, true, List, [], ◌∷◌, ◌++◌, length, filter, refl, sym, ap, subst, ◌∙◌, append-nil, length-append, inl, inr, arith}
use Rattle.std.proofs.lemmas.Bool.{cases_Bool, eq-eqb, eqb-true}
use Rattle.std.proofs.lemmas.List.Elements.{All-head, All-filter, filter_passes}
use Rattle.std.specs.Prelude.{All}
use Rattle.turn_lock.specs.History.{StartsWith, GoesOnFrom, Grew, MayGive, own}
use Rattle.turn_lock.specs.Seats.{SeatView, HasSeen}
use Rattle.holding_book.specs.declared.answer.Entry.{Entry}
use Rattle.slot_ledger.specs.Starts.{entry_caller}
use Rattle.slot_ledger.specs.Passes.{read_pass}
use Rattle.slot_ledger.specs.Beside.{ReadsParts, ReadsOwn, MayMark}

none_of : {X : Type 0} (xs : List X) → length xs ≡ 0 → xs ≡ []
none_of [] e = refl
none_of (x ∷ xs) e = absurd (omega (arith, e))

filter_some : {X : Type 0} (p : X → Bool) (xs : List X) (k : ℕ) (d : X) → k < length xs → p (get_or xs k d) ≡ true → filter p xs ≡ [] → ⊥
filter_some p [] k d lt e none = absurd (omega (arith, lt))
filter_some p (x ∷ xs) zero d lt e none = absurd (let g : x ∷ filter p xs ≡ [] = rw e at none in cc)
filter_some p (x ∷ xs) (suc k) d lt e none =
    elim (cases_Bool (p x)) [
      | inl t ↦ absurd (let g : x ∷ filter p xs ≡ [] = rw t at none in cc)
      | inr f ↦ filter_some p xs k d (omega (arith, lt)) e (rw f at none)
    ]

module _ {X : Type 0} (read : List X → List Entry) (number : X → ℕ) (parts : ReadsParts read) where
  pub reads_nothing : read [] ≡ []
  reads_nothing = none_of (read []) (omega (arith, length-append (read []) (read []), ap length (parts [] [])))

  pub reads_start : (xs seen : List X) → StartsWith xs seen → StartsWith (read xs) (read seen)
  reads_start xs seen h = (read h.0, ap read h.1 ∙ parts seen h.0)

  pub reads_on : ReadsOwn read number → (caller : ℕ) (seen xs : List X) → GoesOnFrom number caller seen xs → GoesOnFrom entry_caller caller (read seen) (read xs)
  reads_on owns caller seen xs h = (read h.0, ap read h.1 ∙ parts seen h.0, owns caller h.0 ∙ ap read h.2 ∙ reads_nothing)

  -- what a pass has seen at the end
  pub reads_seen : {O : Type 0} → ReadsOwn read number → (xs : List X) (seat : SeatView O X) → HasSeen number xs seat → HasSeen entry_caller (read xs) (read_pass read seat)
  reads_seen owns xs seat h = (reads_start xs seat.seen h.0, ap read h.1 ∙ sym (owns seat.number xs))

  -- a list that may be marked may be given, and is read as before
  pub marked_give : (caller : ℕ) (xs ys : List X) → MayMark read number caller xs ys → MayGive number caller xs ys
  marked_give caller xs ys (inl same) = inl same
  marked_give caller xs ys (inr mark) = inr (mark.0, mark.1, mark.2)

  pub marked_read : (caller : ℕ) (xs ys : List X) → MayMark read number caller xs ys → read ys ≡ read xs
  marked_read caller xs ys (inl same) = ap read same
  marked_read caller xs ys (inr mark) = ap read mark.1 ∙ parts xs (mark.0 ∷ []) ∙ ap (λ (es : List Entry). read xs ++ es) mark.3 ∙ append-nil (read xs)

  -- the own calls of a mark are read as before
  pub marked_own : (caller : ℕ) (xs ys before after : List X) → MayMark read number caller xs ys → Grew xs ys before after → read after ≡ read before
  marked_own caller xs ys before after (inl same) grew = ap read (grew.0 same)
  marked_own caller xs ys before after (inr mark) grew =
      ap read (grew.1 mark.0 mark.1) ∙ parts before (mark.0 ∷ []) ∙ ap (λ (es : List Entry). read before ++ es) mark.3 ∙ append-nil (read before)

  -- what all passes have seen at the end
  pub all_seen : {O : Type 0} → ReadsOwn read number → (xs : List X) (es : List Entry) (seats : List (SeatView O X)) → read xs ≡ es → All (HasSeen number xs) seats
      → All (λ (s : SeatView O X). HasSeen entry_caller es (read_pass read s)) seats
  all_seen owns xs es seats is all = λ k d lt. rw (sym is) (reads_seen owns xs (get_or seats k d) (all k d lt))

  -- what holds of each caller of a list holds of each of what it is read as
  pub reads_callers : ReadsOwn read number → (P : ℕ → Type 0) (xs : List X) (es : List Entry) → read xs ≡ es → All (λ (x : X). P (number x)) xs → All (λ (e : Entry). P (entry_caller e)) es
  reads_callers owns P xs es is all = rw (sym is) (λ k d lt. by k d lt (own number (entry_caller (get_or (read xs) k d)) xs) refl)
    where
      by : (k : ℕ) (d : Entry) → k < length (read xs) → (ys : List X) → own number (entry_caller (get_or (read xs) k d)) xs ≡ ys → P (entry_caller (get_or (read xs) k d))
      by k d lt [] same =
          let c = entry_caller (get_or (read xs) k d) in
          absurd (filter_some (λ (e : Entry). eqb (entry_caller e) c) (read xs) k d lt (eq-eqb c c refl) (owns c xs ∙ ap read same ∙ reads_nothing))
      by k d lt (y ∷ ys) same =
          let c = entry_caller (get_or (read xs) k d) in
          let here : P (number y) = All-head (λ (x : X). P (number x)) y ys (rw same at (All-filter (λ (x : X). eqb (number x) c) (λ (x : X). P (number x)) xs all)) in
          let passes : eqb (number y) c ≡ true = All-head (λ (x : X). eqb (number x) c ≡ true) y ys (rw same at (filter_passes (λ (x : X). eqb (number x) c) xs)) in
          subst P (eqb-true (number y) c passes) here
