-- How often strips use a resource.
use Rattle.std.proofs.Common.{ℕ, zero, suc, ◌≤◌, arith, true, false, List, [], ◌∷◌}
use Rattle.std.proofs.lemmas.List.Elements.{All-head, All-tail}
use Rattle.std.specs.Prelude.{if◌then◌else◌, count_by, ◌==◌}
use Rattle.std.specs.List.{range_with_len}
use Rattle.std.proofs.Common.{◌≡◌, ◌+◌, refl, sym, add-zero}
use Rattle.std.proofs.lemmas.Grind.{common_steps}
use Rattle.std.proofs.lemmas.List.Sums.{sum_by-cons, sum_by-append}
use Rattle.choice_problem.specs.declared.strips.Strip.{Strip}
use Rattle.std.specs.Prelude.{◌*◌, ◌/◌, ◌-◌, ◌<◌, ◌↔◌, ◌&&◌, nat_le, nat_lt}
use Rattle.std.proofs.Common.{◌∙◌}
use Rattle.finite_sums.proofs.SumLemmas.{sum_below-add, sum_below-same, count_below-all, count_below-none, count_below-same, count_below-le}
use Rattle.std.proofs.Math.Nat.{le-div_iff_mul-le}
use Rattle.finite_sums.specs.Sums.{sum_below, count_below}
use Rattle.choice_problem.specs.Loops.{run_uses}
use Rattle.choice_problem.specs.Strips.{run_start, run_resources, strip_resources, strip_uses, part_uses, is_in_run, IsStripInRange, IsPartInRange}

-- no run holds a resource twice
pub strip_uses-le : (s : Strip) (r : ℕ) → strip_uses s r ≤ s.times
strip_uses-le s r = count_below-le s.times (λ i. is_in_run s r i)

-- how often a run of numbers has a number
count-range : (a n r : ℕ) → count_by (λ c. c == r) (range_with_len a n) ≡ run_uses a (a + n) r
count-range a zero r = rw add-zero (grind (arith, common_steps))
count-range a (suc n) r =
    let rest = count-range (a + 1) n r in
    let first = sum_by-cons (λ c. if c == r then 1 else 0) a (range_with_len (a + 1) n) in
    one_more a n r (count_by (λ c. c == r) (range_with_len (a + 1) n)) rest first
  where
    one_more : (b m q k : ℕ) → k ≡ run_uses (b + 1) (b + 1 + m) q → count_by (λ c. c == q) (range_with_len b (suc m)) ≡ (if b == q then 1 else 0) + k →
        count_by (λ c. c == q) (range_with_len b (suc m)) ≡ run_uses b (b + suc m) q
    one_more b m q k e f = grind (arith, common_steps)

count-runs : (s : Strip) (r n : ℕ) → count_by (λ c. c == r) (run_resources s n) ≡ sum_below n (λ i. if is_in_run s r i then 1 else 0)
count-runs s r zero = refl
count-runs s r (suc n) =
    omega (
      arith,
      count-runs s r n,
      count-range (run_start s n) s.width r,
      sum_by-append (λ c. if c == r then 1 else 0) (run_resources s n) (range_with_len (run_start s n) s.width),
    )

-- a strip uses a resource as often as it comes in its list
pub strip_uses-count : (s : Strip) (r : ℕ) → strip_uses s r ≡ count_by (λ c. c == r) (strip_resources s)
strip_uses-count s r = sym (count-runs s r s.times)

-- how many multiples of a number are at most another
pub count-multiples : (n g d : ℕ) → 0 < g → count_below n (λ i. nat_le (i * g) d) ≡ (if nat_lt (d / g) n then d / g + 1 else n)
count-multiples zero g d l = none (d / g)
  where
    none : (q : ℕ) → 0 ≡ (if nat_lt q 0 then q + 1 else 0)
    none q = grind (arith, common_steps)
count-multiples (suc n) g d l =
    let rest = count-multiples n g d l in
    let here : (n ≤ d / g) ↔ (n * g ≤ d) = le-div_iff_mul-le l in
    one_more n (d / g) (n * g) d (count_below n (λ i. nat_le (i * g) d)) rest here
  where
    one_more : (m q t e k : ℕ) → k ≡ (if nat_lt q m then q + 1 else m) → (m ≤ q) ↔ (t ≤ e) →
        k + (if nat_le t e then 1 else 0) ≡ (if nat_lt q (suc m) then q + 1 else suc m)
    one_more m q t e k r h = grind (arith, common_steps)

-- where runs do not move, all begin at once
pub count-still : (s : Strip) (d : ℕ) → s.gap ≡ 0 → s.times ≡ count_below s.times (λ i. nat_le (i * s.gap) d)
count-still s d e = sym (count_below-all s.times (λ i. nat_le (i * s.gap) d) (λ i l. still (i * s.gap) (rw e (omega arith))))
  where
    still : (t : ℕ) → t ≡ 0 → nat_le t d ≡ true
    still t z = grind (arith, common_steps)

-- no run holds a resource before the first one
pub strip_uses-before : (s : Strip) (r : ℕ) → r < s.first → strip_uses s r ≡ 0
strip_uses-before s r l = count_below-none s.times (λ i. is_in_run s r i) (λ i _. outside s.first (i * s.gap) s.width r l)
  where
    outside : (first t width q : ℕ) → q < first → (nat_le (first + t) q && nat_lt q (first + t + width)) ≡ false
    outside first t width q h = grind (arith, common_steps)

-- nor after all have ended
pub strip_uses-after : (s : Strip) (r : ℕ) → IsStripInRange r s → strip_uses s r ≡ 0
strip_uses-after s r h = count_below-none s.times (λ i. is_in_run s r i) (λ i l. outside (run_start s i) s.width r (h i l))
  where
    outside : (start width q : ℕ) → start + width ≤ q → (nat_le start q && nat_lt q (start + width)) ≡ false
    outside start width q h = grind (arith, common_steps)

-- a resource within the first run's width is held by the runs that have begun
pub strip_uses-begun : (s : Strip) (r : ℕ) → s.first ≤ r → r - s.first < s.width →
    strip_uses s r ≡ count_below s.times (λ i. nat_le (i * s.gap) (r - s.first))
strip_uses-begun s r l m =
    count_below-same s.times (λ i. is_in_run s r i) (λ i. nat_le (i * s.gap) (r - s.first)) (λ i _. held s.first (i * s.gap) s.width r l m)
  where
    held : (first t width q : ℕ) → first ≤ q → q - first < width → (nat_le (first + t) q && nat_lt q (first + t + width)) ≡ nat_le t (q - first)
    held first t width q h k = grind (arith, common_steps)

-- beyond it, by those that have begun and not ended
pub strip_uses-ended : (s : Strip) (r : ℕ) → s.first ≤ r → s.width ≤ r - s.first →
    strip_uses s r + count_below s.times (λ i. nat_le (i * s.gap) (r - s.first - s.width)) ≡ count_below s.times (λ i. nat_le (i * s.gap) (r - s.first))
strip_uses-ended s r l m =
    sym (sum_below-add s.times (λ i. if is_in_run s r i then 1 else 0) (λ i. if nat_le (i * s.gap) (r - s.first - s.width) then 1 else 0))
    ∙ sum_below-same s.times (λ i. (if is_in_run s r i then 1 else 0) + (if nat_le (i * s.gap) (r - s.first - s.width) then 1 else 0))
    (λ i. if nat_le (i * s.gap) (r - s.first) then 1 else 0) (λ i _. ended s.first (i * s.gap) s.width r l m)
  where
    ended : (first t width q : ℕ) → first ≤ q → width ≤ q - first →
        (if nat_le (first + t) q && nat_lt q (first + t + width) then 1 else 0) + (if nat_le t (q - first - width) then 1 else 0)
        ≡ (if nat_le t (q - first) then 1 else 0)
    ended first t width q h k = grind (arith, common_steps)

-- strips that stay within the resources use nothing beyond them
pub part_uses-beyond : (strips : List Strip) (resources r : ℕ) → IsPartInRange resources strips → resources ≤ r → part_uses strips r ≡ 0
part_uses-beyond [] resources r h l = refl
part_uses-beyond (s ∷ strips) resources r h l =
    let within : IsStripInRange resources s = All-head (IsStripInRange resources) s strips h in
    omega (
      arith,
      sum_by-cons (λ (t : Strip). strip_uses t r) s strips,
      strip_uses-after s r (λ i j. omega (arith, within i j, l)),
      part_uses-beyond strips resources r (All-tail (IsStripInRange resources) s strips h) l,
    )
