-- The lowest resource above its limit: of two kinds together, of one run more, and what it says of
-- all that are above.
use Rattle.std.proofs.Common.{◌≡◌, ℕ, zero, suc, ◌+◌, ◌<◌, ◌≤◌, ◌⊎◌, inl, inr, Bool, true, false, cond, refl, sym, ◌∙◌, ap, subst, arith, List, [], ◌∷◌, length, get_or, take, map, min, pos, ℤ}
use Rattle.std.specs.Prelude.{Option, Some, None, filter, slice_index, nat_lt, nat_le, ◌&&◌, if◌then◌else◌, int_lt}
use Rattle.std.specs.List.{range_with_len}
use Rattle.std.proofs.lemmas.Bool.{cases_lt, le-ltb}
use Rattle.std.proofs.lemmas.Grind.{common_steps}
use Rattle.std.proofs.lemmas.List.Sums.{sum_by_more}
use Rattle.finite_sums.specs.Sums.{count_below}
use Rattle.finite_sums.proofs.SumLemmas.{count_below-more}
use Rattle.choice_problem.specs.declared.strips.Strip.{Strip}
use Rattle.choice_problem.specs.Strips.{run_start, is_in_run, strip_uses, part_uses}
use Rattle.choice_problem.specs.Problems.{ProblemView, alt_uses, limit_of, resource_count}
use Rattle.choice_problem.specs.Counts.{GrowsBy, limit_at}
use Rattle.window_counts.specs.Placed.{KeepsLimits}
use Rattle.season_report.specs.Private.{is_above_at, is_above_with, resources_above, found_passed, IsLowest, lower_of}
use Rattle.season_report.proofs.BesideLemmas.{filter_below}

-- ---- of two kinds

pub lowest_of_both : (counts : List ℕ) (limits : List ℤ) (P Q R : ℕ → Type 0) (one other : Option ℕ) → ((r : ℕ) → R r → P r ⊎ Q r) → ((r : ℕ) → P r → R r) → ((r : ℕ) → Q r → R r) →
    IsLowest counts limits P one → IsLowest counts limits Q other → IsLowest counts limits R (lower_of one other)
lowest_of_both counts limits P Q R None None from first second none other = λ r lt is.
    elim (from r is) as (λ w. is_above_at counts limits r ≡ false) [
      | inl p ↦ none r lt p
      | inr q ↦ other r lt q
    ]
lowest_of_both counts limits P Q R None (Some b) from first second none low = (
  low.0,
  second b low.1,
  low.2,
  λ r lt is. elim (from r is) as (λ w. is_above_at counts limits r ≡ false) [
    | inl p ↦ none r (omega (arith, lt, low.0)) p
    | inr q ↦ low.3 r lt q
  ],
)
lowest_of_both counts limits P Q R (Some a) None from first second low none = (
  low.0,
  first a low.1,
  low.2,
  λ r lt is. elim (from r is) as (λ w. is_above_at counts limits r ≡ false) [
    | inl p ↦ low.3 r lt p
    | inr q ↦ none r (omega (arith, lt, low.0)) q
  ],
)
lowest_of_both counts limits P Q R (Some a) (Some b) from first second low other =
    let below : (r : ℕ) → r < min a b → R r → is_above_at counts limits r ≡ false = λ r lt is.
    elim (from r is) as (λ w. is_above_at counts limits r ≡ false) [
      | inl p ↦ low.3 r (omega arith) p
      | inr q ↦ other.3 r (omega arith) q
    ] in
    elim (cases_lt a b) as (λ w. IsLowest counts limits R (Some (min a b))) [
      | inl before ↦
          let same : a ≡ min a b = omega arith in
          (omega (arith, low.0), subst R same (first a low.1), subst (λ (k : ℕ). is_above_at counts limits k ≡ true) same low.2, below)
      | inr after ↦
          let same : b ≡ min a b = omega arith in
          (omega (arith, other.0), subst R same (second b other.1), subst (λ (k : ℕ). is_above_at counts limits k ≡ true) same other.2, below)
    ]

pub lowest_same : (counts : List ℕ) (limits : List ℤ) (P Q : ℕ → Type 0) (lowest : Option ℕ) → ((r : ℕ) → P r → Q r) → ((r : ℕ) → Q r → P r) → IsLowest counts limits P lowest → IsLowest counts limits Q lowest
lowest_same counts limits P Q None to back none = λ r lt is. none r lt (back r is)
lowest_same counts limits P Q (Some a) to back low = (low.0, to a low.1, low.2, λ r lt is. low.3 r lt (back r is))

-- ---- one run more, one strip more, and two parts

one_used : (a b : ℕ) → 0 < a + b → (0 < a) ⊎ (0 < b)
one_used a b l = elim (cases_lt 0 a) [
  | inl u ↦ inl u
  | inr none ↦ inr (omega arith)
]

pub sum_lowest : (counts : List ℕ) (limits : List ℤ) (f g h : ℕ → ℕ) (one other : Option ℕ) → ((r : ℕ) → h r ≡ f r + g r) →
    IsLowest counts limits (λ r. 0 < f r) one → IsLowest counts limits (λ r. 0 < g r) other → IsLowest counts limits (λ r. 0 < h r) (lower_of one other)
sum_lowest counts limits f g h one other sum low high =
    lowest_of_both counts limits (λ r. 0 < f r) (λ r. 0 < g r) (λ r. 0 < h r) one other
    (λ r is. one_used (f r) (g r) (omega (arith, sum r, is)))
    (λ r is. omega (arith, sum r, is))
    (λ r is. omega (arith, sum r, is))
    low high

abbrev in_run : Strip → ℕ → ℕ → ℕ
in_run s i r = if is_in_run s r i then 1 else 0

run_counts : (a b r : ℕ) → a ≤ r → r < b → 0 < (if nat_le a r && nat_lt r b then 1 else 0)
run_counts a b r l m = grind (arith, common_steps)

run_counted : (a b r : ℕ) → 0 < (if nat_le a r && nat_lt r b then 1 else 0) → (a ≤ r) × (r < b)
run_counted a b r l = grind (arith, common_steps)

pub run_lowest : (counts : List ℕ) (limits : List ℤ) (s : Strip) (i start end : ℕ) (one other : Option ℕ) → start ≡ run_start s i → end ≡ run_start s i + s.width →
    IsLowest counts limits (λ r. 0 < count_below i (λ k. is_in_run s r k)) one → IsLowest counts limits (λ r. (start ≤ r) × (r < end)) other →
    IsLowest counts limits (λ r. 0 < count_below (i + 1) (λ k. is_in_run s r k)) (lower_of one other)
run_lowest counts limits s i start end one other from to low high =
    let a = run_start s i in
    let b = run_start s i + s.width in
    sum_lowest counts limits (λ r. count_below i (λ k. is_in_run s r k)) (in_run s i) (λ r. count_below (i + 1) (λ k. is_in_run s r k)) one other
    (λ r. count_below-more i (λ k. is_in_run s r k))
    low
    (lowest_same counts limits (λ r. (start ≤ r) × (r < end)) (λ r. 0 < in_run s i r) other
    (λ r is. run_counts a b r (omega (arith, from, is.0)) (omega (arith, to, is.1)))
    (λ r is. let both = run_counted a b r is in (omega (arith, from, both.0), omega (arith, to, both.1)))
    high)

pub strip_lowest : (counts : List ℕ) (limits : List ℤ) (strips : List Strip) (i : ℕ) (d : Strip) (one other : Option ℕ) → i < length strips →
    IsLowest counts limits (λ r. 0 < part_uses (take i strips) r) one → IsLowest counts limits (λ r. 0 < strip_uses (get_or strips i d) r) other →
    IsLowest counts limits (λ r. 0 < part_uses (take (i + 1) strips) r) (lower_of one other)
strip_lowest counts limits strips i d one other lt low high =
    sum_lowest counts limits (λ r. part_uses (take i strips) r) (strip_uses (get_or strips i d)) (λ r. part_uses (take (i + 1) strips) r) one other
    (λ r. sum_by_more (λ (strip : Strip). strip_uses strip r) strips i d lt)
    low high

-- ---- all that are above

limit_got : (limits : List ℕ) (r : ℕ) → limit_at (map pos limits) r ≡ pos (get_or limits r 0)
limit_got [] r = refl
limit_got (limit ∷ limits) zero = refl
limit_got (limit ∷ limits) (suc r) = limit_got limits r

above_with : (p : ProblemView) (place alt : ℕ) (others counts : List ℕ) (r : ℕ) → GrowsBy others counts (λ q. alt_uses p place alt q) → r < length others →
    is_above_at counts (map pos p.limits) r ≡ is_above_with p place alt others r
above_with p place alt others counts r grown lt =
    ap (λ (z : ℤ). int_lt z (pos (slice_index counts r))) (limit_got p.limits r)
    ∙ ap (λ (n : ℕ). nat_lt (limit_of p r) n) (grown r lt)

pub above_found : (p : ProblemView) (place alt : ℕ) (others counts : List ℕ) → GrowsBy others counts (λ r. alt_uses p place alt r) → length others ≡ resource_count p → length counts ≡ resource_count p →
    resources_above counts (map pos p.limits) ≡ found_passed p place alt others
above_found p place alt others counts grown long same =
    ap (λ (n : ℕ). filter (is_above_at counts (map pos p.limits)) (range_with_len 0 n)) same
    ∙ filter_below (is_above_at counts (map pos p.limits)) (is_above_with p place alt others) 0 (resource_count p)
    (λ r lt. above_with p place alt others counts r grown (omega (arith, lt, long)))

-- the first that passes
none_passes : (p : ℕ → Bool) (start n : ℕ) → ((r : ℕ) → start ≤ r → r < start + n → p r ≡ false) → filter p (range_with_len start n) ≡ []
none_passes p start zero none = refl
none_passes p start (suc n) none =
    let head : p start ≡ false = none start (omega arith) (omega arith) in
    let rest : filter p (range_with_len (start + 1) n) ≡ [] = none_passes p (start + 1) n (λ r from to. none r (omega arith) (omega arith)) in
    ap (λ (b : Bool). cond b (start ∷ filter p (range_with_len (start + 1) n)) (filter p (range_with_len (start + 1) n))) head ∙ rest

first_passes : (p : ℕ → Bool) (start n first : ℕ) → start ≤ first → first < start + n → p first ≡ true → ((r : ℕ) → start ≤ r → r < first → p r ≡ false) →
    (rest : List ℕ) × (filter p (range_with_len start n) ≡ first ∷ rest)
first_passes p start zero first from to is before = absurd (omega arith)
first_passes p start (suc n) first from to is before =
    let rest = filter p (range_with_len (start + 1) n) in
    elim (cases_lt start first) as (λ w. (rest : List ℕ) × (filter p (range_with_len start (suc n)) ≡ first ∷ rest)) [
      | inl later ↦
          let head : p start ≡ false = before start (omega arith) later in
          let found = first_passes p (start + 1) n first (omega arith) (omega arith) is (λ r low high. before r (omega arith) high) in
          (found.0, ap (λ (b : Bool). cond b (start ∷ rest) rest) head ∙ found.1)
      | inr here ↦
          let same : first ≡ start = omega arith in
          let head : p start ≡ true = subst (λ (k : ℕ). p k ≡ true) same is in
          (rest, ap (λ (b : Bool). cond b (start ∷ rest) rest) head ∙ ap (λ (k : ℕ). k ∷ rest) (sym same))
    ]

-- one that is not used is not above, where the others are within the limits
within_others : (p : ProblemView) (place alt : ℕ) (others : List ℕ) (r : ℕ) → KeepsLimits p others → r < resource_count p → alt_uses p place alt r ≡ 0 → is_above_with p place alt others r ≡ false
within_others p place alt others r keeps lt unused = le-ltb (limit_of p r) (slice_index others r + alt_uses p place alt r) (omega (arith, unused, keeps.within r lt))

-- what the lowest one that is used says of all that are above
pub none_found : (p : ProblemView) (place alt : ℕ) (others counts : List ℕ) → KeepsLimits p others → GrowsBy others counts (λ r. alt_uses p place alt r) → length counts ≡ resource_count p →
    IsLowest counts (map pos p.limits) (λ r. 0 < alt_uses p place alt r) None → found_passed p place alt others ≡ []
none_found p place alt others counts keeps grown same none =
    none_passes (is_above_with p place alt others) 0 (resource_count p) (λ r from to.
    let lt : r < resource_count p = omega arith in
    elim (cases_lt 0 (alt_uses p place alt r)) as (λ w. is_above_with p place alt others r ≡ false) [
      | inl used ↦ sym (above_with p place alt others counts r grown (omega (arith, keeps.length))) ∙ none r (omega (arith, same)) used
      | inr unused ↦ within_others p place alt others r keeps lt (omega arith)
    ])

pub first_found : (p : ProblemView) (place alt lowest : ℕ) (others counts : List ℕ) → KeepsLimits p others → GrowsBy others counts (λ r. alt_uses p place alt r) → length counts ≡ resource_count p →
    IsLowest counts (map pos p.limits) (λ r. 0 < alt_uses p place alt r) (Some lowest) → (rest : List ℕ) × (found_passed p place alt others ≡ lowest ∷ rest)
first_found p place alt lowest others counts keeps grown same low =
    let long : lowest < length others = omega (arith, low.0, same, keeps.length) in
    first_passes (is_above_with p place alt others) 0 (resource_count p) lowest (omega arith) (omega (arith, low.0, same))
    (sym (above_with p place alt others counts lowest grown long) ∙ low.2)
    (λ r from lt.
    let there : r < resource_count p = omega (arith, lt, low.0, same) in
    elim (cases_lt 0 (alt_uses p place alt r)) as (λ w. is_above_with p place alt others r ≡ false) [
      | inl used ↦ sym (above_with p place alt others counts r grown (omega (arith, there, keeps.length))) ∙ low.3 r lt used
      | inr unused ↦ within_others p place alt others r keeps there (omega arith)
    ])
