-- A set of weekdays, from its spelling back to its value.
use Rattle.std.proofs.Common.{◌≡◌, ℕ, zero, suc, ◌+◌, ◌-◌, ◌*◌, ◌/◌, ◌%◌, ◌^◌, ◌<◌, ◌≤◌, true, false, eqb, refl, sym, arith, inl, inr}
use Rattle.std.specs.Prelude.{Bool, length, nat_lt, ◌==◌}
use Rattle.std.proofs.Math.Bool.{◌&&◌, ◌||◌}
use Rattle.std.proofs.lemmas.Bool.{cases_Bool, eqb-true, eqb-false, ne_eqb, both_ways}
use Rattle.std.proofs.lemmas.Bool.Decides.{nat_tests}
use Rattle.schedule_text.specs.Days.{place_of_day, rising_text}
use Rattle.schedule_text.specs.Bits.{bit_of_place, digit_bits}

bit_is : (days weekday : ℕ) → 1 ≤ weekday → bit_of_place (place_of_day days weekday) ≡ (days / 2 ^ (weekday - 1)) % 2
bit_is days weekday one =
    elim (cases_Bool (eqb ((days / 2 ^ (weekday - 1)) % 2) 1)) [
      | inl on ↦ rw (on, ne_eqb (48 + weekday) 48 (λ e. omega arith)) (sym (eqb-true _ _ on))
      | inr off ↦ rw off (omega (arith, eqb-false _ _ off))
    ]

-- the bits that the places show make the set again
pub bits_again : (days : ℕ) → days < 128 → bit_of_place (place_of_day days 1) + 2 * bit_of_place (place_of_day days 2) + 4 * bit_of_place (place_of_day days 3) + 8 * bit_of_place (place_of_day days 4) + 16 * bit_of_place (place_of_day days 5)
    + 32 * bit_of_place (place_of_day days 6) + 64 * bit_of_place (place_of_day days 7) ≡ days
bits_again days lt =
    omega (arith, bit_is days 1 (omega arith), bit_is days 2 (omega arith), bit_is days 3 (omega arith), bit_is days 4 (omega arith), bit_is days 5 (omega arith), bit_is days 6 (omega arith), bit_is days 7 (omega arith))

all_below : (ℕ → Bool) → ℕ → Bool
all_below p zero = true
all_below p (suc n) = p n && all_below p n

and_both : (a b : Bool) → (a && b) ≡ true → (a ≡ true) × (b ≡ true)
and_both true b e = (refl, e)
and_both false b e = absurd (both_ways false refl e)

all_holds : (p : ℕ → Bool) (n k : ℕ) → all_below p n ≡ true → k < n → p k ≡ true
unfolding all_below
all_holds p zero k all lt = absurd (omega (arith, lt))
all_holds p (suc n) k all lt =
    let both = and_both (p n) (all_below p n) all in
    elim (cases_Bool (eqb k n)) [
      | inl same ↦ rw (eqb-true k n same) both.0
      | inr other ↦ all_holds p n k both.1 (omega (arith, lt, eqb-false k n other))
    ]

bits_or_long : ℕ → Bool
bits_or_long days = (digit_bits (rising_text days) == days) || nat_lt 6 (length (rising_text days))

pub rising_again : (days : ℕ) → days < 128 → length (rising_text days) ≤ 6 → digit_bits (rising_text days) ≡ days
unfolding all_below bits_or_long
rising_again days lt short =
    let holds : bits_or_long days ≡ true = all_holds bits_or_long 128 days refl lt in
    elim (cases_Bool (eqb (digit_bits (rising_text days)) days)) [
      | inl same ↦ eqb-true _ _ same
      | inr other ↦ absurd (grind (arith, nat_tests, holds, other, short))
    ]
