-- What is allowed keeps the limits.
use Rattle.std.proofs.Common.{◌≡◌, ℕ, ◌+◌, ◌-◌, ◌*◌, ◌<◌, ◌≤◌, refl, sym, ◌∙◌, ap, arith, inl, inr, List, [], ◌∷◌, length, Option, Some, None, min}
use Rattle.std.specs.Prelude.{◌/◌, ◌==◌, nat_lt, if◌then◌else◌, slice_index_or, All, ◌^◌}
use Rattle.std.specs.Option.{ForSome}
use Rattle.std.proofs.lemmas.Grind.{common_steps}
use Rattle.std.proofs.lemmas.Bool.{cases_lt, cases_eq}
use Rattle.std.proofs.lemmas.List.Sums.{sum_by-cons}
use Rattle.std.proofs.Math.Nat.{le-div_iff_mul-le, div-mul-le_self, mul-le-mul_right}
use Rattle.choice_problem.specs.declared.strips.Strip.{Strip}
use Rattle.choice_problem.specs.declared.problems.Alt.{Alt}
use Rattle.choice_problem.specs.Strips.{strip_uses, part_uses}
use Rattle.choice_problem.specs.Problems.{ChooserView, IsChooser, alt_at, named_uses}
use Rattle.choice_problem.specs.Allowed.{strip_most, part_most, named_most, IsAllowedAlt, IsAllowed, UseAtMost, IsNamedAlt}
use Rattle.choice_problem.proofs.StripLemmas.{strip_uses-le, strip_uses-before, strip_uses-begun, strip_uses-ended, count-multiples}

-- how many starts lie within a width of each other
starts_within : (g w e : ℕ) → 0 < g → (w + e) / g ≤ e / g + (w + (g - 1)) / g
starts_within g w e l =
    let last : (w + e) / g * g ≤ w + e = div-mul-le_self (w + e) g in
    let far : w + e < (e / g + (w + (g - 1)) / g + 1) * g = beyond (e / g) ((w + (g - 1)) / g) (after e g l) (after (w + (g - 1)) g l) in
    below ((w + e) / g) (e / g + (w + (g - 1)) / g) last far
  where
    -- a number is below the next multiple
    after : (n k : ℕ) → 0 < k → n < (n / k + 1) * k
    after n k m = elim (cases_lt n ((n / k + 1) * k)) [
      | inl less ↦ less
      | inr more ↦ let no : n / k + 1 ≤ n / k = (le-div_iff_mul-le m).1 more in absurd (omega arith)
    ]

    beyond : (a b : ℕ) → e < (a + 1) * g → w + (g - 1) < (b + 1) * g → w + e < (a + b + 1) * g
    beyond a b h k = grind (arith)

    below : (q m : ℕ) → q * g ≤ w + e → w + e < (m + 1) * g → q ≤ m
    below q m h k = elim (cases_lt m q) [
      | inl less ↦ let step : m + 1 ≤ q = omega arith in absurd (omega (arith, h, k, mul-le-mul_right g step))
      | inr more ↦ more
    ]

-- as many runs as begin within a width can hold one resource
pub strip_uses-le_most : (s : Strip) (r : ℕ) → strip_uses s r ≤ strip_most s
strip_uses-le_most s r = elim (cases_eq s.gap 0) [
  | inl still ↦ at_most (strip_uses-le s r) still
  | inr moves ↦ elim (cases_lt r s.first) [
    | inl before ↦ omega (arith, strip_uses-before s r before)
    | inr after ↦ moving (strip_uses s r) s.times (starts s.gap s.width) s.gap (strip_uses-le s r) (within (omega (arith, moves)) after) moves
  ]
]
  where
    starts : ℕ → ℕ → ℕ
    starts g w = (w + (g - 1)) / g

    at_most : strip_uses s r ≤ s.times → s.gap ≡ 0 → strip_uses s r ≤ strip_most s
    at_most h e = grind (arith, common_steps)

    moving : (u n j g : ℕ) → u ≤ n → u ≤ j → (g ≡ 0 → ⊥) → u ≤ (if g == 0 then n else min n j)
    moving u n j g h k m = grind (arith, common_steps)

    -- at a resource within the first run, and beyond it
    first_run : (d g w : ℕ) → 0 < g → d < w → d / g + 1 ≤ starts g w
    first_run d g w l m = (le-div_iff_mul-le l).1 (next (d / g) (div-mul-le_self d g))
      where
        next : (q : ℕ) → q * g ≤ d → (q + 1) * g ≤ w + (g - 1)
        next q h = grind (arith)

    begun : (u q n j : ℕ) → u ≡ (if nat_lt q n then q + 1 else n) → q + 1 ≤ j → u ≤ j
    begun u q n j h k = grind (arith, common_steps)

    ended : (u q k n j : ℕ) → u + (if nat_lt k n then k + 1 else n) ≡ (if nat_lt q n then q + 1 else n) → q ≤ k + j → u ≤ j
    ended u q k n j h m = grind (arith, common_steps)

    within : 0 < s.gap → s.first ≤ r → strip_uses s r ≤ starts s.gap s.width
    within l after = elim (cases_lt (r - s.first) s.width) [
      | inl inside ↦
          begun (strip_uses s r) ((r - s.first) / s.gap) s.times (starts s.gap s.width)
          (strip_uses-begun s r after inside ∙ count-multiples s.times s.gap (r - s.first) l) (first_run (r - s.first) s.gap s.width l inside)
      | inr beyond ↦
          let e : ℕ = r - s.first - s.width in
          let whole : s.width + e ≡ r - s.first = omega arith in
          let far : (r - s.first) / s.gap ≤ e / s.gap + starts s.gap s.width = rw whole at (starts_within s.gap s.width e l) in
          ended (strip_uses s r) ((r - s.first) / s.gap) (e / s.gap) s.times (starts s.gap s.width)
          (ap (λ m. strip_uses s r + m) (sym (count-multiples s.times s.gap e l)) ∙ strip_uses-ended s r after beyond ∙ count-multiples s.times s.gap (r - s.first) l) far
    ]

-- strips one by one
pub part_uses-le_most : (strips : List Strip) (r : ℕ) → part_uses strips r ≤ part_most strips
part_uses-le_most [] r = omega arith
part_uses-le_most (s ∷ strips) r =
    omega (arith, part_uses-le_most strips r, strip_uses-le_most s r, sum_by-cons (λ (t : Strip). strip_uses t r) s strips, sum_by-cons strip_most s strips)

named_uses-le_most : (parts : List (List Strip)) (alts : List Alt) (part : Option ℕ) (r : ℕ) →
    named_uses (record { parts = parts; alts = alts }) part r ≤ named_most parts part
named_uses-le_most parts alts None r = omega arith
named_uses-le_most parts alts (Some k) r = part_uses-le_most (slice_index_or parts k []) r

pub IsAllowed-IsChooser : (m : ChooserView) → IsAllowed m → IsChooser m
IsAllowed-IsChooser m h =
    let alt : ℕ → Alt = λ a. alt_at m a in
    let keeps : (a : ℕ) → a < length m.alts → IsAllowedAlt m.parts (alt_at m a) = λ a l. h.each a (record { cost = 0; one = None; two = None }) l in
    record {
      some = h.some;
      few_alts = h.few_alts;
      few_parts = h.few_parts;
      cost = λ a l. (keeps a l).cost;
      one = λ a l. (keeps a l).one;
      two = λ a l. (keeps a l).two;
      uses = λ a r l. omega (arith, (keeps a l).uses, named_uses-le_most m.parts m.alts (alt_at m a).one r, named_uses-le_most m.parts m.alts (alt_at m a).two r);
    }

-- the part that an alternative may name uses no resource more often than all parts do
named_uses-le : (m : ChooserView) (most : ℕ) (part : Option ℕ) (r : ℕ) → UseAtMost most m.parts → ForSome part (λ k. k < length m.parts) → named_uses m part r ≤ most
named_uses-le m most None r h l = omega arith
named_uses-le m most (Some k) r h l = h k [] (l k refl) r

pub few_uses-IsChooser : (m : ChooserView) → UseAtMost 217 m.parts → 0 < length m.alts → length m.alts < 2 ^ 32 → length m.parts < 2 ^ 32 →
    All (IsNamedAlt m.parts) m.alts → IsChooser m
few_uses-IsChooser m few some few_alts few_parts each =
    let named : (a : ℕ) → a < length m.alts → IsNamedAlt m.parts (alt_at m a) = λ a l. each a (record { cost = 0; one = None; two = None }) l in
    record {
      some = some;
      few_alts = few_alts;
      few_parts = few_parts;
      cost = λ a l. (named a l).cost;
      one = λ a l. (named a l).one;
      two = λ a l. (named a l).two;
      uses = λ a r l. omega (arith, named_uses-le m 217 (alt_at m a).one r few (named a l).one, named_uses-le m 217 (alt_at m a).two r few (named a l).two);
    }
