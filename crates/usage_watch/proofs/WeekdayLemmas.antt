-- Weekdays that pass a test: how many, and their set.
use Rattle.std.proofs.Common.{◌≡◌, ℕ, zero, suc, ◌+◌, ◌*◌, ◌-◌, ◌^◌, ◌==◌, ◌<◌, ◌≤◌, Bool, true, false, cond, refl, sym, ap, ◌∙◌, arith, inl, inr}
use Rattle.std.proofs.Math.Nat.{pow-suc}
use Rattle.std.proofs.Math.Pow.{pow_mono}
use Rattle.std.proofs.lemmas.Bool.{cases_lt}
use Rattle.std.proofs.lemmas.Nat.Bits.{bit_at_lowest, bit_at_cat_low, bit_at_cat_high}
use Rattle.std.specs.Int.{bit_at}
use Rattle.season_days.specs.Seasons.{has_weekday}
use Rattle.usage_watch.specs.NextLines.{count_to, days_to}

pub count_more : (test : ℕ → Bool) (n : ℕ) → count_to test (n + 1) ≡ count_to test n + cond (test (n + 1)) 1 0
count_more test n = let e : n + 1 ≡ suc n = omega arith in rw e refl

pub days_more : (test : ℕ → Bool) (n : ℕ) → days_to test (n + 1) ≡ days_to test n + cond (test (n + 1)) (2 ^ n) 0
days_more test n = let e : n + 1 ≡ suc n = omega arith in rw e refl

one_or_none : (b : Bool) → cond b 1 0 ≤ 1
one_or_none true = omega arith
one_or_none false = omega arith

pub count_few : (test : ℕ → Bool) (n : ℕ) → count_to test n ≤ n
count_few test zero = omega arith
count_few test (suc n) =
    let step : count_to test (suc n) ≡ count_to test n + cond (test (suc n)) 1 0 = refl in
    omega (arith, step, count_few test n, one_or_none (test (suc n)))

bit_or_none : (b : Bool) (bit : ℕ) → cond b bit 0 ≤ bit
bit_or_none true bit = omega arith
bit_or_none false bit = omega arith

pub days_few : (test : ℕ → Bool) (n : ℕ) → days_to test n < 2 ^ n
days_few test zero = omega arith
days_few test (suc n) =
    let step : days_to test (suc n) ≡ days_to test n + cond (test (suc n)) (2 ^ n) 0 = refl in
    omega (arith, step, days_few test n, bit_or_none (test (suc n)) (2 ^ n), pow-suc 2 n)

bit_few : (n : ℕ) → n < 7 → 2 ^ n ≤ 64
bit_few n lt = let low : n ≤ 6 = omega arith in pow_mono low

-- one more bit stays within a byte
pub days_in_byte : (test : ℕ → Bool) (n : ℕ) (b : Bool) → n < 7 → days_to test n + cond b (2 ^ n) 0 < 128
days_in_byte test n b lt = omega (arith, days_few test n, bit_or_none b (2 ^ n), bit_few n lt)

pub few_more : (test : ℕ → Bool) (n : ℕ) (b : Bool) → n < 7 → count_to test n + cond b 1 0 ≤ 7
few_more test n b lt = omega (arith, count_few test n, one_or_none b, lt)

-- ---- the set has the weekdays that pass

high_first : (b : Bool) (low bit : ℕ) → low + cond b bit 0 ≡ cond b 1 0 * bit + low
high_first true low bit = omega arith
high_first false low bit = omega arith

own_bit : (b : Bool) → bit_at (cond b 1 0) 0 ≡ cond b 1 0
own_bit true = bit_at_lowest 1
own_bit false = bit_at_lowest 0

bit_of : (test : ℕ → Bool) (n i : ℕ) → i < n → bit_at (days_to test n) i ≡ cond (test (suc i)) 1 0
bit_of test zero i lt = absurd (let never : i < 0 = lt in omega arith)
bit_of test (suc n) i lt =
    let b = test (suc n) in
    let low = days_to test n in
    let whole : days_to test (suc n) ≡ cond b 1 0 * 2 ^ n + low = high_first b low (2 ^ n) in
    elim (cases_lt i n) [
      | inl below ↦ ap (λ (k : ℕ). bit_at k i) whole ∙ bit_at_cat_low (cond b 1 0) n low i below ∙ bit_of test n i below
      | inr above ↦
          let at : i ≡ n = omega (arith, lt, above) in
          let none : i - n ≡ 0 = omega (arith, at) in
          ap (λ (k : ℕ). bit_at k i) whole
          ∙ bit_at_cat_high (cond b 1 0) n low i (days_few test n) above
          ∙ ap (λ (k : ℕ). bit_at (cond b 1 0) k) none
          ∙ own_bit b
          ∙ ap (λ (k : ℕ). cond (test (suc k)) 1 0) (sym at)
    ]

one_is : (b : Bool) → (cond b 1 0 == 1) ≡ b
one_is true = refl
one_is false = refl

pub kept_day : (test : ℕ → Bool) (weekday : ℕ) → 1 ≤ weekday → weekday ≤ 7 → has_weekday (days_to test 7) weekday ≡ test weekday
kept_day test weekday some few =
    let lt : weekday - 1 < 7 = omega arith in
    let own : suc (weekday - 1) ≡ weekday = omega arith in
    ap (λ (k : ℕ). k == 1) (bit_of test 7 (weekday - 1) lt) ∙ one_is (test (suc (weekday - 1))) ∙ ap test own
