-- How many numbers pass a test: in two parts, and by classes of numbers a week apart.
use Rattle.std.proofs.Common.{◌≡◌, ℕ, zero, suc, ◌+◌, ◌-◌, ◌*◌, ◌/◌, ◌%◌, ◌<◌, ◌≤◌, min, Bool, false, ◌&&◌, leb, ltb, eqb, cond, refl, sym, ◌∙◌, ap, arith}
use Rattle.std.proofs.lemmas.Bool.{lt-ltb, le-ltb, le-leb, lt-leb, eq-eqb, ne_eqb, cases_lt, cases_eq, and_left, and_right}
use Rattle.std.proofs.Common.{inl, inr}
use Rattle.finite_sums.proofs.SumLemmas.{sum_below-same, sum_below-add}
use Rattle.finite_sums.specs.Sums.{count_below}

-- a test counts as 1 where it passes
abbrev pub one_if : Bool → ℕ
one_if b = cond b 1 0

-- in two parts
pub count_below-parts : (n : ℕ) (p q s : ℕ → Bool) → ((i : ℕ) → i < n → one_if (p i) ≡ one_if (q i) + one_if (s i)) → count_below n p ≡ count_below n q + count_below n s
count_below-parts n p q s h = sum_below-same n (λ i. one_if (p i)) (λ i. one_if (q i) + one_if (s i)) h ∙ sum_below-add n (λ i. one_if (q i)) (λ i. one_if (s i))

-- the first number from low on with a remainder by 7
abbrev pub class_first : ℕ → ℕ → ℕ
class_first low c = low + (c + 7 - low % 7) % 7

-- how many numbers of a class there are below an end
abbrev pub class_times : ℕ → ℕ → ℕ
class_times first end = (end + 6 - first) / 7

class_more : (low c d : ℕ) → c < 7 → low ≤ d → d % 7 ≡ c → (d ≡ class_first low c + 7 * class_times (class_first low c) d) × (class_times (class_first low c) (d + 1) ≡ class_times (class_first low c) d + 1)
class_more low c d lt le is = omega arith

class_stays_below : (low c d : ℕ) → c < 7 → d < low → class_times (class_first low c) (d + 1) ≡ class_times (class_first low c) d
class_stays_below low c d lt below = omega arith

class_stays_other : (low c d : ℕ) → c < 7 → low ≤ d → (d % 7 ≡ c → ⊥) → class_times (class_first low c) (d + 1) ≡ class_times (class_first low c) d
class_stays_other low c d lt le other = omega arith

-- a test of the numbers of a class that lie from low on and below an end
abbrev pub class_test : ℕ → ℕ → ℕ → (ℕ → Bool) → ℕ → Bool
class_test low end c h x = eqb (x % 7) c && (leb low x && (ltb x end && h x))

-- those of the class so far, by steps of a week
abbrev by_weeks : ℕ → ℕ → (ℕ → Bool) → ℕ → ℕ
by_weeks low c h k = count_below k (λ t. h (class_first low c + 7 * t))

-- a number that is not in the class, or outside
class_skips : (n low end c : ℕ) (h : ℕ → Bool) → class_test low end c h n ≡ false → class_times (class_first low c) (min (suc n) end) ≡ class_times (class_first low c) (min n end) → count_below n (class_test low end c h) ≡ by_weeks low c h (class_times (class_first low c) (min n end)) → count_below (suc n) (class_test low end c h) ≡ by_weeks low c h (class_times (class_first low c) (min (suc n) end))
class_skips n low end c h fails same so_far =
    let none : one_if (class_test low end c h n) ≡ 0 = ap one_if fails in
    let k : by_weeks low c h (class_times (class_first low c) (min (suc n) end)) ≡ by_weeks low c h (class_times (class_first low c) (min n end)) = ap (by_weeks low c h) same in
    omega (arith, none, k, so_far)

class_takes : (n low end c : ℕ) (h : ℕ → Bool) → c < 7 → n < end → low ≤ n → n % 7 ≡ c → count_below n (class_test low end c h) ≡ by_weeks low c h (class_times (class_first low c) (min n end)) → count_below (suc n) (class_test low end c h) ≡ by_weeks low c h (class_times (class_first low c) (min (suc n) end))
class_takes n low end c h lt below le is so_far =
    let before : min n end ≡ n = omega arith in
    let after : min (suc n) end ≡ n + 1 = omega arith in
    let first = class_first low c in
    let more = class_more low c n lt le is in
    let test : class_test low end c h n ≡ h n = rw (eq-eqb (n % 7) c is, le-leb low n le, lt-ltb n end below) refl in
    let one : one_if (class_test low end c h n) ≡ one_if (h (first + 7 * class_times first n)) = ap one_if test ∙ ap (λ (d : ℕ). one_if (h d)) more.0 in
    let now : by_weeks low c h (class_times first (min n end)) ≡ by_weeks low c h (class_times first n) = ap (λ (d : ℕ). by_weeks low c h (class_times first d)) before in
    let next : class_times first (min (suc n) end) ≡ suc (class_times first n) = rw after (omega (arith, more.1)) in
    let later : by_weeks low c h (class_times first (min (suc n) end)) ≡ by_weeks low c h (suc (class_times first n)) = ap (by_weeks low c h) next in
    omega (arith, one, now, later, so_far)

-- counted by steps of a week
pub count_below-class : (n low end c : ℕ) (h : ℕ → Bool) → c < 7 → count_below n (class_test low end c h) ≡ count_below (class_times (class_first low c) (min n end)) (λ t. h (class_first low c + 7 * t))
count_below-class zero low end c h lt =
    let none : class_times (class_first low c) (min 0 end) ≡ 0 = omega arith in
    sym (ap (by_weeks low c h) none)
count_below-class (suc n) low end c h lt =
    let so_far = count_below-class n low end c h lt in
    elim (cases_lt n end) [
      | inr past ↦
          class_skips n low end c h (and_right (eqb (n % 7) c) _ (and_right (leb low n) _ (and_left (ltb n end) (h n) (le-ltb n end past)))) (let a : min (suc n) end ≡ min n end = omega arith in ap (class_times (class_first low c)) a) so_far
      | inl below ↦
          elim (cases_lt n low) [
            | inl early ↦ class_skips n low end c h (and_right (eqb (n % 7) c) _ (and_left (leb low n) _ (lt-leb low n early))) (let a : min (suc n) end ≡ n + 1 = omega arith in let b : min n end ≡ n = omega arith in rw (a, b) (class_stays_below low c n lt early)) so_far
            | inr from ↦
                elim (cases_eq (n % 7) c) [
                  | inl is ↦ class_takes n low end c h lt below from is so_far
                  | inr other ↦ class_skips n low end c h (and_left (eqb (n % 7) c) _ (ne_eqb (n % 7) c other)) (let a : min (suc n) end ≡ n + 1 = omega arith in let b : min n end ≡ n = omega arith in rw (a, b) (class_stays_other low c n lt from other)) so_far
                ]
          ]
    ]
