-- Uses of parts on counts, and what fits on them.
use Rattle.std.proofs.Common.{◌≡◌, ◌↔◌, ℕ, ◌+◌, ◌<◌, ◌≤◌, refl, arith, inl, inr, List, [], ◌∷◌, length, pos, map, false}
use Rattle.std.specs.Prelude.{slice_index, nat_le, nat_lt, ◌&&◌, ℤ, ◌≤ℤ◌, Some, None}
use Rattle.std.proofs.lemmas.Bool.{cases_lt}
use Rattle.std.proofs.lemmas.Grind.{common_steps, same_number_lists}
use Rattle.std.proofs.lemmas.Int.{ints}
use Rattle.std.proofs.lemmas.List.{get_or-map}
use Rattle.std.proofs.lemmas.List.Sums.{sum_by-cons}
use Rattle.std.proofs.lemmas.List.Elements.{All-head, All-tail}
use Rattle.choice_problem.specs.declared.strips.Strip.{Strip}
use Rattle.choice_problem.specs.Strips.{run_start, is_in_run, strip_uses, part_uses, IsStripInRange, IsPartInRange}
use Rattle.choice_problem.specs.Problems.{ProblemView, resource_count, chooser_at, alt_at, named_uses, limit_of}
use Rattle.choice_problem.specs.Counts.{GrowsBy}
use Rattle.choice_problem.specs.Greedy.{FitsOn}
use Rattle.finite_sums.proofs.SumLemmas.{count_below-none}
use Rattle.window_counts.specs.Counts.{both_uses, FitsWith, KeepsLimit}
use Rattle.choice_problem.specs.Counts.{limit_at}
use Rattle.window_counts.specs.Placed.{KeepsLimits, FitsBeside, FitsOnce}

-- strips use nothing beyond the resources that they stay within
strip_uses-outside : (n : ℕ) (s : Strip) (r : ℕ) → IsStripInRange n s → n ≤ r → strip_uses s r ≡ 0
strip_uses-outside n s r h l = count_below-none s.times (λ i. is_in_run s r i) (λ i j. beyond (run_start s i) s.width r (omega (arith, h i j, l)))
  where
    beyond : (start width q : ℕ) → start + width ≤ q → (nat_le start q && nat_lt q (start + width)) ≡ false
    beyond start width q k = grind (arith, common_steps)

pub part_uses-outside : (n : ℕ) (strips : List Strip) (r : ℕ) → IsPartInRange n strips → n ≤ r → part_uses strips r ≡ 0
part_uses-outside n [] r h l = refl
part_uses-outside n (s ∷ strips) r h l =
    omega (
      arith,
      sum_by-cons (λ (t : Strip). strip_uses t r) s strips,
      strip_uses-outside n s r (All-head (IsStripInRange n) s strips h) l,
      part_uses-outside n strips r (All-tail (IsStripInRange n) s strips h) l,
    )

-- limits as numbers
limit_at-map : (limits : List ℕ) (r : ℕ) → r < length limits → limit_at (map pos limits) r ≡ pos (slice_index limits r)
limit_at-map limits r l = get_or-map pos limits r 0 (pos 0) l

number_le : (a b : ℕ) (z : ℤ) → z ≡ pos b → pos a ≤ℤ z → a ≤ b
number_le a b z e h = omega (arith, ints)

int_le : (a b : ℕ) (z : ℤ) → z ≡ pos b → a ≤ b → pos a ≤ℤ z
int_le a b z e h = omega (arith, ints)

-- what keeps the limits as whole numbers keeps them as numbers, at the resources that the part uses
pub kept_at : (p : ProblemView) (counts : List ℕ) (strips : List Strip) (more : ℕ → ℕ) → IsPartInRange (resource_count p) strips →
    ((r : ℕ) → 0 < part_uses strips r → KeepsLimit counts more (map pos p.limits) r) ↔
    ((r : ℕ) → r < resource_count p → 0 < part_uses strips r → slice_index counts r + more r ≤ limit_of p r)
kept_at p counts strips more i = (
  λ h r l u. number_le (slice_index counts r + more r) (limit_of p r) (limit_at (map pos p.limits) r) (limit_at-map p.limits r l) (h r u),
  λ h r u. elim (cases_lt r (resource_count p)) [
    | inl l ↦ int_le (slice_index counts r + more r) (limit_of p r) (limit_at (map pos p.limits) r) (limit_at-map p.limits r l) (h r l u)
    | inr m ↦ absurd (omega (arith, u, part_uses-outside (resource_count p) strips r i m))
  ],
)

-- the part fits alone where its uses do
pub fits_alone : (p : ProblemView) (counts : List ℕ) (strips : List Strip) → IsPartInRange (resource_count p) strips →
    FitsWith counts (λ r. both_uses (Some strips) None r) (map pos p.limits) ↔ FitsBeside p counts (λ r. part_uses strips r)
fits_alone p counts strips i =
    let both = kept_at p counts strips (λ r. both_uses (Some strips) None r) i in (
      λ h r l u. omega (arith, both.0 (λ q v. h q (omega (arith, v))) r l u),
      λ h r u. both.1 (λ q l v. omega (arith, h q l v)) r (omega (arith, u)),
    )

-- the uses of an alternative are those of the parts that it may name
module _ (p : ProblemView) (u a : ℕ) where
  abbrev pub one_uses : ℕ → ℕ
  one_uses r = named_uses (chooser_at p u) (alt_at (chooser_at p u) a).one r

  abbrev pub two_uses : ℕ → ℕ
  two_uses r = named_uses (chooser_at p u) (alt_at (chooser_at p u) a).two r

  -- an alternative that fits on the counts fits part by part, and has room for its second part
  -- alone
  pub FitsOn-room : (counts : List ℕ) → FitsOn p (λ r. slice_index counts r) u a → FitsOnce p counts two_uses
  FitsOn-room counts h = λ r l u'. omega (arith, h r l, u')

  pub FitsOn-one : (counts : List ℕ) → FitsOn p (λ r. slice_index counts r) u a → FitsBeside p counts one_uses
  FitsOn-one counts h = λ r l u'. omega (arith, h r l)

  pub FitsOn-two : (counts more : List ℕ) → length counts ≡ resource_count p → GrowsBy counts more one_uses →
      FitsOn p (λ r. slice_index counts r) u a → FitsBeside p more two_uses
  FitsOn-two counts more e g h = λ r l u'. omega (arith, h r l, g r (omega arith))

  pub FitsOn-both : (counts more : List ℕ) → KeepsLimits p counts → GrowsBy counts more one_uses → FitsBeside p counts one_uses →
      FitsBeside p more two_uses → FitsOn p (λ r. slice_index counts r) u a
  FitsOn-both counts more k g f h = λ r l.
      elim (cases_lt 0 (two_uses r)) [
        | inl used ↦ omega (arith, h r l used, g r (omega (arith, k.length, l)))
        | inr free ↦ elim (cases_lt 0 (one_uses r)) [
          | inl held ↦ omega (arith, f r l held)
          | inr none ↦ omega (arith, k.within r l)
        ]
      ]

-- what was added and taken away again leaves the counts as they were
pub counts-back : (counts more again : List ℕ) (uses : ℕ → ℕ) → length again ≡ length counts → length more ≡ length counts →
    GrowsBy counts more uses → GrowsBy again more uses → again ≡ counts
counts-back counts more again uses e f g h =
    same_number_lists again counts e (λ r l. omega (arith, g r (omega arith), h r l))
