-- The places of a flight that the change of a book does not touch.
use Rattle.std.proofs.Common.{◌≡◌, ℕ, suc, ◌+◌, ◌-◌, ◌<◌, ◌≤◌, ◌^◌, nat_lt, true, false, cond, List, [], ◌∷◌, ◌++◌, length, map, refl, sym, ap, ◌∙◌, subst, arith, inl, inr, append-nil}
use Rattle.std.proofs.lemmas.Bool.{cases_Bool, ltb-true, ltb-false}
use Rattle.std.proofs.lemmas.List.{map-append}
use Rattle.scr_reader.specs.declared.line.Flight.{Flight}
use Rattle.holding_book.specs.declared.holding.Holding.{Holding}
use Rattle.holding_book.specs.Lines.{has_flight}
use Rattle.holding_book.specs.Books.{places_from, places_of}
use Rattle.holding_book.specs.Private.Places.{moved}

-- none of the holdings has the flight
abbrev pub Lacks : Flight → List Holding → Type 0
Lacks flight [] = Unit {0}
Lacks flight (holding ∷ holdings) = (has_flight flight holding.line ≡ false) × Lacks flight holdings

module _ (flight : Flight) where
  pub places-append : (n : ℕ) (one other : List Holding) → places_from flight n (one ++ other) ≡ places_from flight n one ++ places_from flight (n + length one) other
  places-append n [] other = let e : n + 0 ≡ n = omega arith in rw e refl
  places-append n (holding ∷ one) other =
      let e : suc n + length one ≡ n + suc (length one) = omega arith in
      let rest = places-append (suc n) one other in
      elim (has_flight flight holding.line) as (λ b. cond b (n ∷ places_from flight (suc n) (one ++ other)) (places_from flight (suc n) (one ++ other)) ≡ cond b (n ∷ places_from flight (suc n) one) (places_from flight (suc n) one) ++ places_from flight (n + suc (length one)) other) [
        | true ↦ rw (← e, rest) refl
        | false ↦ rw (← e, rest) refl
      ]

  pub places-none : (n : ℕ) (holdings : List Holding) → Lacks flight holdings → places_from flight n holdings ≡ []
  places-none n [] lacks = refl
  places-none n (holding ∷ holdings) lacks = rw lacks.0 (places-none (suc n) holdings lacks.1)

  module _ (at count : ℕ) where
    stays : (n : ℕ) → n ≤ at → moved at count n ≡ n
    stays n le = elim (cases_Bool (nat_lt at n)) [
      | inl lt ↦ absurd (omega (arith, le, ltb-true at n lt))
      | inr not_lt ↦ rw not_lt refl
    ]

    goes : (n : ℕ) → at < n → n + count < 2 ^ 32 → moved at count n ≡ n + count - 1
    goes n lt few = elim (cases_Bool (nat_lt at n)) [
      | inl is ↦ rw is (omega (arith, few))
      | inr is_not ↦ absurd (omega (arith, lt, ltb-false at n is_not))
    ]

    pub low : (n : ℕ) (holdings : List Holding) → n + length holdings ≤ suc at → map (moved at count) (places_from flight n holdings) ≡ places_from flight n holdings
    low n [] le = refl
    low n (holding ∷ holdings) le =
        let rest = low (suc n) holdings (omega arith) in
        elim (has_flight flight holding.line) as (λ b. map (moved at count) (cond b (n ∷ places_from flight (suc n) holdings) (places_from flight (suc n) holdings)) ≡ cond b (n ∷ places_from flight (suc n) holdings) (places_from flight (suc n) holdings)) [
          | true ↦ rw (stays n (omega arith), rest) refl
          | false ↦ rest
        ]

    high : (n : ℕ) (holdings : List Holding) → at < n → n + count + length holdings < 2 ^ 32 → map (moved at count) (places_from flight n holdings) ≡ places_from flight (n + count - 1) holdings
    high n [] lt few = refl
    high n (holding ∷ holdings) lt few =
        let e : suc n + count - 1 ≡ suc (n + count - 1) = omega arith in
        let rest = subst (λ (k : ℕ). map (moved at count) (places_from flight (suc n) holdings) ≡ places_from flight k holdings) e (high (suc n) holdings (omega arith) (omega arith)) in
        let here = goes n lt (omega arith) in
        elim (has_flight flight holding.line) as (λ b. map (moved at count) (cond b (n ∷ places_from flight (suc n) holdings) (places_from flight (suc n) holdings)) ≡ cond b ((n + count - 1) ∷ places_from flight (suc (n + count - 1)) holdings) (places_from flight (suc (n + count - 1)) holdings)) [
          | true ↦ rw (here, rest) refl
          | false ↦ rest
        ]

  -- one holding replaced by others, and new ones at the end: a flight that none of them has
  pub untouched : (before after others new : List Holding) (holding : Holding) → has_flight flight holding.line ≡ false → Lacks flight others → Lacks flight new → suc (length before) + length others + length after < 2 ^ 32 → places_of flight (before ++ (others ++ (after ++ new))) ≡ map (moved (length before) (length others)) (places_of flight (before ++ holding ∷ after))
  untouched before after others new holding not_it not_others not_new few =
      let n = length before in
      let k = length others in
      let one = places-append 0 before (others ++ (after ++ new)) in
      let two = places-append (0 + n) others (after ++ new) in
      let three = places-append (0 + n + k) after new in
      let no_others = places-none (0 + n) others not_others in
      let no_new = places-none (0 + n + k + length after) new not_new in
      let old = places-append 0 before (holding ∷ after) in
      let l = low n k 0 before (omega arith) in
      let h = high n k (suc (0 + n)) after (omega arith) (omega arith) in
      let first = places_from flight 0 before in
      let last = places_from flight (0 + n + k) after in
      let s : places_from flight (0 + n + k) (after ++ new) ≡ last = three ∙ ap (λ (t : List ℕ). last ++ t) no_new ∙ append-nil last in
      let t : places_from flight (0 + n) (others ++ (after ++ new)) ≡ last = two ∙ ap (λ (t : List ℕ). t ++ places_from flight (0 + n + k) (after ++ new)) no_others ∙ s in
      let lhs : places_of flight (before ++ (others ++ (after ++ new))) ≡ first ++ last = one ∙ ap (λ (t : List ℕ). first ++ t) t in
      let e : suc (0 + n) + k - 1 ≡ 0 + n + k = omega arith in
      let m : map (moved n k) (places_from flight (0 + n) (holding ∷ after)) ≡ last = rw not_it (h ∙ ap (λ (j : ℕ). places_from flight j after) e) in
      let rhs : map (moved n k) (places_of flight (before ++ holding ∷ after)) ≡ first ++ last = ap (map (moved n k)) old ∙ map-append (moved n k) first (places_from flight (0 + n) (holding ∷ after)) ∙ ap (λ (t : List ℕ). t ++ map (moved n k) (places_from flight (0 + n) (holding ∷ after))) l ∙ ap (λ (t : List ℕ). first ++ t) m in
      lhs ∙ sym rhs
