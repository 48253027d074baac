-- Remainders by a step: shifts are the minutes with the requested one's remainder.
use Rattle.std.proofs.Common.{◌≡◌, ◌⊎◌, ℕ, ◌+◌, ◌-◌, ◌*◌, ◌/◌, ◌%◌, ◌<◌, ◌≤◌, true, false, sym, ap, ◌∙◌, arith, inl, inr}
use Rattle.std.specs.Int.{abs_diff}
use Rattle.std.proofs.lemmas.Bool.{cases_lt, le-leb, lt-leb, eq-eqb, ne_eqb, and_from, and_left, and_right}
use Rattle.std.proofs.lemmas.Nat.{div-add-mod', mul-le, row_fits, mod_below}
use Rattle.std.proofs.Math.Nat.{add-mod-mod, mod-add-mod, add-mod_right, mod-eq_of_lt}
use Rattle.series_model.specs.Options.{is_shift}

too_near : (a b s r x m : ℕ) → a + r ≡ x → b + r ≡ m → x < m → m < x + s → a + s ≤ b → ⊥
too_near a b s r x m is also lt near far = omega arith

too_low : (a b r x m : ℕ) → a + r ≡ x → b + r ≡ m → x < m → b ≤ a → ⊥
too_low a b r x m is also lt le = omega arith

-- numbers less than a step apart have other remainders
pub apart : (s x m : ℕ) → x < m → m < x + s → m % s ≡ x % s → ⊥
apart s x m lt near same =
    let here : x / s * s + x % s ≡ x = div-add-mod' x s in
    let there : m / s * s + x % s ≡ m = ap (λ (k : ℕ). m / s * s + k) (sym same) ∙ div-add-mod' m s in
    elim (cases_lt (x / s) (m / s)) [
      | inl below ↦ too_near (x / s * s) (m / s * s) s (x % s) x m here there lt near (row_fits (x / s) s (m / s) s below (omega arith))
      | inr more ↦ too_low (x / s * s) (m / s * s) (x % s) x m here there lt (mul-le (m / s) s (x / s) s more (omega arith))
    ]

rest_zero : (s m e : ℕ) → 0 < s → (m + e) % s ≡ m % s → e % s ≡ 0
rest_zero s m e pos same =
    elim (cases_lt 0 (e % s)) [
      | inl some ↦ absurd (apart s m (m + e % s) (omega arith) (let few = mod_below e s pos in omega (arith, few)) (add-mod-mod m e s ∙ same))
      | inr none ↦ omega arith
    ]

zero_rest : (s m e : ℕ) → e % s ≡ 0 → (m + e) % s ≡ m % s
zero_rest s m e none =
    let k : m + e % s ≡ m = omega arith in
    sym (add-mod-mod m e s) ∙ ap (λ (n : ℕ). n % s) k

-- the distance is a multiple of the step exactly where the remainders are the same
pub same_rest : (s m r : ℕ) → 0 < s → m % s ≡ r % s → abs_diff m r % s ≡ 0
same_rest s m r pos same =
    elim (cases_lt m r) [
      | inl below ↦
          let e : abs_diff m r ≡ r - m = omega arith in
          let k : m + (r - m) ≡ r = omega arith in
          rw e (rest_zero s m (r - m) pos (ap (λ (n : ℕ). n % s) k ∙ sym same))
      | inr from ↦
          let e : abs_diff m r ≡ m - r = omega arith in
          let k : r + (m - r) ≡ m = omega arith in
          rw e (rest_zero s r (m - r) pos (ap (λ (n : ℕ). n % s) k ∙ same))
    ]

pub rest_same : (s m r : ℕ) → abs_diff m r % s ≡ 0 → m % s ≡ r % s
rest_same s m r none =
    elim (cases_lt m r) [
      | inl below ↦
          let e : abs_diff m r ≡ r - m = omega arith in
          let k : m + (r - m) ≡ r = omega arith in
          sym (zero_rest s m (r - m) (ap (λ (n : ℕ). n % s) (sym e) ∙ none)) ∙ ap (λ (n : ℕ). n % s) k
      | inr from ↦
          let e : abs_diff m r ≡ m - r = omega arith in
          let k : r + (m - r) ≡ m = omega arith in
          ap (λ (n : ℕ). n % s) (sym k) ∙ zero_rest s r (m - r) (ap (λ (n : ℕ). n % s) (sym e) ∙ none)
    ]

-- from a minute on, the next one with a remainder
pub gap_rest : (s from gap to : ℕ) → 0 < s → to < s → ((from % s + gap ≡ to) ⊎ (from % s + gap ≡ to + s)) → (from + gap) % s ≡ to
gap_rest s from gap to pos few is =
    sym (mod-add-mod from s gap)
    ∙ elim is [
      | inl one ↦ ap (λ (n : ℕ). n % s) one ∙ mod-eq_of_lt few
      | inr next ↦ ap (λ (n : ℕ). n % s) next ∙ add-mod_right to s ∙ mod-eq_of_lt few
    ]

-- what is a shift, and what is none
pub shift_yes : (s flex r m : ℕ) → 0 < s → m % s ≡ r % s → m ≤ r + flex → r ≤ m + flex → is_shift s flex r m ≡ true
shift_yes s flex r m pos same late early =
    and_from _ _ (le-leb (abs_diff m r) flex (omega arith)) (eq-eqb (abs_diff m r % s) 0 (same_rest s m r pos same))

pub shift_early : (s flex r m : ℕ) → m + flex < r → is_shift s flex r m ≡ false
shift_early s flex r m early = and_left _ _ (lt-leb (abs_diff m r) flex (omega arith))

pub shift_late : (s flex r m : ℕ) → r + flex < m → is_shift s flex r m ≡ false
shift_late s flex r m late = and_left _ _ (lt-leb (abs_diff m r) flex (omega arith))

pub shift_other : (s flex r m : ℕ) → (m % s ≡ r % s → ⊥) → is_shift s flex r m ≡ false
shift_other s flex r m other = and_right _ _ (ne_eqb (abs_diff m r % s) 0 (λ none. other (rest_same s m r none)))

-- between a minute and the next one with the requested remainder there is no shift
pub gap_none : (s flex r from gap m : ℕ) → 0 < s → gap < s → (from + gap) % s ≡ r % s → from ≤ m → m < from + gap → is_shift s flex r m ≡ false
gap_none s flex r from gap m pos few is le lt = shift_other s flex r m (λ same. apart s m (from + gap) lt (omega arith) (is ∙ sym same))
