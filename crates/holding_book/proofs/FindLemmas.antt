-- The first holding that passes a test, and the holdings in which it is replaced.
use Rattle.std.proofs.Common.{◌≡◌, ℕ, zero, suc, ◌+◌, ◌<◌, ◌≤◌, Bool, true, false, cond, List, [], ◌∷◌, ◌++◌, length, take, get_or, refl, sym, ap, ◌∙◌, arith, Option, Some, None}
use Rattle.std.proofs.Common.{add-one}
use Rattle.std.proofs.Math.Seq.{take-suc, take-length}
use Rattle.std.specs.Prelude.{IfSome}
use Rattle.std.specs.Option.{option_map}
use Rattle.std.specs.List.{slice_get}
use Rattle.std.proofs.lemmas.Option.{get_or_from_slice_get}
use Rattle.holding_book.specs.declared.holding.Holding.{Holding}
use Rattle.holding_book.specs.Lines.{replace_first}
use Rattle.holding_book.specs.Private.Steps.{first_place, replaced_at}

mapped-none : (x : Option ℕ) → option_map (λ n. suc n) x ≡ None → x ≡ None
mapped-none None e = refl
mapped-none (Some n) e = cc

module _ (test : Holding → Bool) where
  pub none-more : (xs : List Holding) (y : Holding) → first_place test xs ≡ None → test y ≡ false → first_place test (xs ++ y ∷ []) ≡ None
  none-more [] y none fails = rw fails refl
  none-more (x ∷ xs) y none fails =
      elim (test x) as (λ b. cond b (Some 0) (option_map (λ n. suc n) (first_place test xs)) ≡ None → cond b (Some 0) (option_map (λ n. suc n) (first_place test (xs ++ y ∷ []))) ≡ None) [
        | true ↦ λ e. cc
        | false ↦ λ e. rw (none-more xs y (mapped-none (first_place test xs) e) fails) refl
      ] none

  pub first-here : (xs : List Holding) (n : ℕ) (d : Holding) → n < length xs → first_place test (take n xs) ≡ None → test (get_or xs n d) ≡ true → first_place test xs ≡ Some n
  first-here [] n d lt none passes = absurd (omega (arith, lt))
  first-here (x ∷ xs) zero d lt none passes = rw passes refl
  first-here (x ∷ xs) (suc n) d lt none passes =
      elim (test x) as (λ b. cond b (Some 0) (option_map (λ n. suc n) (first_place test (take n xs))) ≡ None → cond b (Some 0) (option_map (λ n. suc n) (first_place test xs)) ≡ Some (suc n)) [
        | true ↦ λ e. cc
        | false ↦ λ e. rw (first-here xs n d (omega (arith, lt)) (mapped-none (first_place test (take n xs)) e) passes) refl
      ] none

  -- the place is one of the list, and what stands there passes
  abbrev pub IsThere : List Holding → Holding → Option ℕ → Type 0
  IsThere xs d None = Unit {0}
  IsThere xs d (Some n) = (n < length xs) × (test (get_or xs n d) ≡ true)

  behind-there : (x : Holding) (xs : List Holding) (d : Holding) (place : Option ℕ) → IsThere xs d place → IsThere (x ∷ xs) d (option_map (λ n. suc n) place)
  behind-there x xs d None there = tt
  behind-there x xs d (Some n) there = (omega (arith, there.0), there.1)

  pub first-there : (xs : List Holding) (d : Holding) → IsThere xs d (first_place test xs)
  first-there [] d = tt
  first-there (x ∷ xs) d =
      elim (test x) as (λ b. test x ≡ b → IsThere (x ∷ xs) d (cond b (Some 0) (option_map (λ n. suc n) (first_place test xs)))) [
        | true ↦ λ e. (omega arith, e)
        | false ↦ λ e. behind-there x xs d (first_place test xs) (first-there xs d)
      ] refl

  below-more : (x : Holding) (xs : List Holding) (place : Option ℕ) → IfSome place (λ n. n < length xs) → IfSome (option_map (λ n. suc n) place) (λ n. n < length (x ∷ xs))
  below-more x xs None lt = tt
  below-more x xs (Some n) lt = omega (arith, lt)

  pub first-below : (xs : List Holding) → IfSome (first_place test xs) (λ n. n < length xs)
  first-below [] = tt
  first-below (x ∷ xs) =
      elim (test x) as (λ b. IfSome (cond b (Some 0) (option_map (λ n. suc n) (first_place test xs))) (λ n. n < length (x ∷ xs))) [
        | true ↦ omega arith
        | false ↦ below-more x xs (first_place test xs) (first-below xs)
      ]

  module _ (others : Holding → List Holding) where
    pub replaced-none : (xs : List Holding) → first_place test xs ≡ None → replace_first test others xs ≡ None
    replaced-none [] none = refl
    replaced-none (x ∷ xs) none =
        elim (test x) as (λ b. cond b (Some 0) (option_map (λ n. suc n) (first_place test xs)) ≡ None → cond b (Some (others x ++ xs)) (option_map (λ rest. x ∷ rest) (replace_first test others xs)) ≡ None) [
          | true ↦ λ e. cc
          | false ↦ λ e. rw (replaced-none xs (mapped-none (first_place test xs) e)) refl
        ] none

    -- the list with the holding at the place replaced, if there is one
    abbrev pub replaced_by : List Holding → Holding → Option ℕ → Option (List Holding)
    replaced_by xs d None = None
    replaced_by xs d (Some n) = Some (replaced_at n (others (get_or xs n d)) xs)

    behind : (x : Holding) (xs : List Holding) (d : Holding) (place : Option ℕ) → option_map (λ rest. x ∷ rest) (replaced_by xs d place) ≡ replaced_by (x ∷ xs) d (option_map (λ n. suc n) place)
    behind x xs d None = refl
    behind x xs d (Some n) = refl

    pub replaced : (xs : List Holding) (d : Holding) → replace_first test others xs ≡ replaced_by xs d (first_place test xs)
    replaced [] d = refl
    replaced (x ∷ xs) d =
        elim (test x) as (λ b. cond b (Some (others x ++ xs)) (option_map (λ rest. x ∷ rest) (replace_first test others xs)) ≡ replaced_by (x ∷ xs) d (cond b (Some 0) (option_map (λ n. suc n) (first_place test xs)))) [
          | true ↦ refl
          | false ↦ ap (option_map (λ rest. x ∷ rest)) (replaced xs d) ∙ behind x xs d (first_place test xs)
        ]

    pub replaced-some : (xs : List Holding) (n : ℕ) (held : Holding) → first_place test xs ≡ Some n → slice_get xs n ≡ Some held → replace_first test others xs ≡ Some (replaced_at n (others held) xs)
    replaced-some xs n held e is = replaced xs held ∙ ap (replaced_by xs held) e ∙ ap (λ (h : Holding). Some (replaced_at n (others h) xs)) (get_or_from_slice_get xs n held held is)

-- ---- a loop that looks for the place

next_taken : (xs : List Holding) (n : ℕ) (d : Holding) → n < length xs → take (n + 1) xs ≡ take n xs ++ (get_or xs n d ∷ [])
next_taken xs n d lt = ap (λ (k : ℕ). take k xs) (add-one n) ∙ take-suc xs n d lt

pub none-next : (test : Holding → Bool) (xs : List Holding) (n : ℕ) (d : Holding) → n < length xs → first_place test (take n xs) ≡ None → test (get_or xs n d) ≡ false → first_place test (take (n + 1) xs) ≡ None
none-next test xs n d lt none fails = ap (first_place test) (next_taken xs n d lt) ∙ none-more test (take n xs) (get_or xs n d) none fails

pub none-end : (test : Holding → Bool) (xs : List Holding) (n : ℕ) → n ≤ length xs → length xs ≤ n → first_place test (take n xs) ≡ None → first_place test xs ≡ None
none-end test xs n le ge none =
    let e : length xs ≡ n = omega (arith, le, ge) in
    sym (ap (first_place test) (ap (λ (k : ℕ). take k xs) (sym e) ∙ take-length xs)) ∙ none
