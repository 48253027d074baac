-- The bits of a mask, and what a word under it says.
use Rattle.std.proofs.Common.{◌≡◌, ◌↔◌, ℕ, ◌+◌, ◌-◌, ◌*◌, ◌/◌, ◌%◌, ◌^◌, ◌<◌, ◌≤◌, min, true, List, slice_index, bit_and, nat_eq, sym, ap, ◌∙◌, arith, inl, inr}
use Rattle.std.specs.Int.{bit_at}
use Rattle.left_counts.specs.Private.Marks.{mark_at}
use Rattle.std.proofs.Math.Nat.{mul_comm, mul-sub, pow-le-pow_right}
use Rattle.std.proofs.lemmas.Bool.{cases_lt, eqb-true, eq-eqb}
use Rattle.std.proofs.lemmas.Nat.{pow-add, pow_pos}
use Rattle.std.proofs.lemmas.Nat.Bits.{bit_at_and, bit_at-zero, bit_at-lt, bit_at_mask_inside, bit_at_mask_below, bit_at_mask_above, ones_shr, same_from_bits}

one_zero : (a b : ℕ) → a ≡ 0 → min a b ≡ 0
one_zero a b e = omega (arith, e)

other_zero : (a b : ℕ) → b ≡ 0 → min a b ≡ 0
other_zero a b e = omega (arith, e)

rest_zero : (a b : ℕ) → a < 2 → b ≡ 1 → min a b ≡ 0 → a ≡ 0
rest_zero a b l e m = omega (arith, l, e, m)

-- a run of ones, moved up
module _ (low count : ℕ) (some : 0 < count) (within : low + count ≤ 64) where
  abbrev pub mask : ℕ
  mask = 18446744073709551615 / 2 ^ (64 - count) * 2 ^ low % 18446744073709551616

  mask_is : mask ≡ 2 ^ (low + count) - 2 ^ low
  mask_is =
      let back : 64 - (64 - count) ≡ count = omega (arith, within) in
      let ones : 18446744073709551615 / 2 ^ (64 - count) ≡ 2 ^ count - 1 = ones_shr 64 (64 - count) (omega arith) ∙ ap (λ (n : ℕ). 2 ^ n - 1) back in
      let moved : (2 ^ count - 1) * 2 ^ low ≡ 2 ^ (low + count) - 2 ^ low =
      mul_comm (2 ^ count - 1) (2 ^ low) ∙ mul-sub (2 ^ low) (2 ^ count) 1 ∙ omega (arith, pow-add 2 low count) in
      let whole : 2 ^ (low + count) ≤ 18446744073709551616 = pow-le-pow_right (omega arith) within in
      let small : 2 ^ (low + count) - 2 ^ low < 18446744073709551616 = omega (arith, whole, pow_pos low) in
      ap (λ (n : ℕ). n * 2 ^ low % 18446744073709551616) ones ∙ ap (λ (n : ℕ). n % 18446744073709551616) moved ∙ omega (arith, small)

  pub mask_inside : (i : ℕ) → low ≤ i → i < low + count → bit_at mask i ≡ 1
  mask_inside i from to = ap (λ (n : ℕ). bit_at n i) mask_is ∙ bit_at_mask_inside low (low + count) i from to

  pub mask_below : (i : ℕ) → i < low → bit_at mask i ≡ 0
  mask_below i l = ap (λ (n : ℕ). bit_at n i) mask_is ∙ bit_at_mask_below low (low + count) i l

  pub mask_above : (i : ℕ) → low + count ≤ i → bit_at mask i ≡ 0
  mask_above i l = ap (λ (n : ℕ). bit_at n i) mask_is ∙ bit_at_mask_above low (low + count) i l

module _ (word m low high : ℕ) (inside : (i : ℕ) → low ≤ i → i < high → bit_at m i ≡ 1)
    (below : (i : ℕ) → i < low → bit_at m i ≡ 0) (above : (i : ℕ) → high ≤ i → bit_at m i ≡ 0) where
  masked : ((i : ℕ) → low ≤ i → i < high → bit_at word i ≡ 0) → (i : ℕ) → min (bit_at word i) (bit_at m i) ≡ 0
  masked h i = elim (cases_lt i low) [
    | inl l ↦ other_zero _ _ (below i l)
    | inr from ↦ elim (cases_lt i high) [
      | inl to ↦ one_zero _ _ (h i from to)
      | inr past ↦ other_zero _ _ (above i past)
    ]
  ]

  pub none_masked : (nat_eq (bit_and word m) 0 ≡ true) ↔ ((i : ℕ) → low ≤ i → i < high → bit_at word i ≡ 0)
  none_masked = (
    λ e i from to.
        let zero : bit_and word m ≡ 0 = eqb-true (bit_and word m) 0 e in
        rest_zero (bit_at word i) (bit_at m i) (bit_at-lt word i) (inside i from to)
        (sym (bit_at_and word m i) ∙ ap (λ (n : ℕ). bit_at n i) zero ∙ bit_at-zero i),
    λ h. eq-eqb (bit_and word m) 0 (same_from_bits (bit_and word m) 0 (λ i. bit_at_and word m i ∙ masked h i ∙ sym (bit_at-zero i))),
  )

-- the mark of a place, as a bit of the word in which it is
pub mark_in_word : (words : List ℕ) (at i : ℕ) → i < 64 → mark_at words (at / 64 * 64 + i) ≡ bit_at (slice_index words (at / 64)) i
mark_in_word words at i l =
    let word : (at / 64 * 64 + i) / 64 ≡ at / 64 = omega (arith, l) in
    let bit : (at / 64 * 64 + i) % 64 ≡ i = omega (arith, l) in
    ap (λ (n : ℕ). bit_at (slice_index words n) ((at / 64 * 64 + i) % 64)) word ∙ ap (λ (n : ℕ). bit_at (slice_index words (at / 64)) n) bit

-- places from one to another in one word, as bits of that word
module _ (words : List ℕ) (start end : ℕ) (some : start < end) (same : start / 64 ≡ (end - 1) / 64) where
  one_word : start % 64 + (end - start) ≤ 64
  one_word = omega (arith, some, same)

  pub bits_clear : ((r : ℕ) → start ≤ r → r < end → mark_at words r ≡ 0) → (i : ℕ) → start % 64 ≤ i → i < start % 64 + (end - start) → bit_at (slice_index words (start / 64)) i ≡ 0
  bits_clear h i from to =
      sym (mark_in_word words start i (omega (arith, to, one_word)))
      ∙ h (start / 64 * 64 + i) (omega (arith, from)) (omega (arith, to, some))

  pub places_clear : ((i : ℕ) → start % 64 ≤ i → i < start % 64 + (end - start) → bit_at (slice_index words (start / 64)) i ≡ 0) → (r : ℕ) → start ≤ r → r < end → mark_at words r ≡ 0
  places_clear h r from to =
      let word : start / 64 ≡ r / 64 = omega (arith, from, to, same) in
      ap (λ (n : ℕ). bit_at (slice_index words n) (r % 64)) (sym word) ∙ h (r % 64) (omega (arith, from, word)) (omega (arith, from, to, word))
