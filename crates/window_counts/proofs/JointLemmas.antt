-- Two parts that are added together: what the counts with both of them say of those before.
use Rattle.std.proofs.Common.{◌≡◌, ℕ, ◌+◌, ◌<◌, ◌≤◌, refl, sym, subst, arith, inl, inr, ◌⊎◌, List, length}
use Rattle.std.specs.Prelude.{slice_index, Option, Some, None, ℤ, pos, ◌≤ℤ◌}
use Rattle.std.specs.Option.{ForSome}
use Rattle.std.proofs.lemmas.Bool.{cases_lt}
use Rattle.std.proofs.lemmas.Grind.{same_number_lists}
use Rattle.choice_problem.specs.declared.strips.Strip.{Strip}
use Rattle.choice_problem.specs.Strips.{part_uses, IsPartInRange}
use Rattle.choice_problem.specs.Counts.{GrowsBy, limit_at}
use Rattle.window_counts.specs.Counts.{some_uses, both_uses, FitsWith, AreWithin}

-- parts within the resources use nothing beyond them
abbrev pub UseNoneBeyond : Type 0
UseNoneBeyond = (strips : List Strip) (resources r : ℕ) → IsPartInRange resources strips → resources ≤ r → part_uses strips r ≡ 0

some_beyond : UseNoneBeyond → (part : Option (List Strip)) (n r : ℕ) → ForSome part (IsPartInRange n) → n ≤ r → some_uses part r ≡ 0
some_beyond law None n r there l = omega arith
some_beyond law (Some strips) n r there l = law strips n r (there strips refl) l

pub added_twice : (old mid new : List ℕ) (f g : ℕ → ℕ) → length mid ≡ length old → GrowsBy old mid f → GrowsBy mid new g →
    GrowsBy old new (λ r. f r + g r)
added_twice old mid new f g e h k r l = omega (arith, h r l, k r (omega arith))

at_sum : (a b c : ℕ) (z : ℤ) → a ≡ b + c → pos a ≤ℤ z → pos (b + c) ≤ℤ z
at_sum a b c z e h = subst (λ (n : ℕ). pos n ≤ℤ z) e h

of_sum : (a b c : ℕ) (z : ℤ) → a ≡ b + c → pos (b + c) ≤ℤ z → pos a ≤ℤ z
of_sum a b c z e h = subst (λ (n : ℕ). pos n ≤ℤ z) (sym e) h

one_used : (a b : ℕ) → 0 < a + b → (0 < a) ⊎ (0 < b)
one_used a b l = elim (cases_lt 0 a) [
  | inl u ↦ inl u
  | inr none ↦ inr (omega arith)
]

module _ (law : UseNoneBeyond) (one two : Option (List Strip)) (old new : List ℕ) (limits : List ℤ)
    (one_there : ForSome one (IsPartInRange (length old))) (two_there : ForSome two (IsPartInRange (length old)))
    (grown : GrowsBy old new (λ r. both_uses one two r)) where
  -- what is used is there
  used_there : (r : ℕ) → 0 < both_uses one two r → r < length old
  used_there r u = elim (cases_lt r (length old)) [
    | inl l ↦ l
    | inr past ↦ absurd (omega (arith, u, some_beyond law one (length old) r one_there past, some_beyond law two (length old) r two_there past))
  ]

  pub both_fit : ((r : ℕ) → 0 < some_uses one r → pos (slice_index new r) ≤ℤ limit_at limits r) →
      ((r : ℕ) → 0 < some_uses two r → pos (slice_index new r) ≤ℤ limit_at limits r) → FitsWith old (λ r. both_uses one two r) limits
  both_fit h k r u =
      let e : slice_index new r ≡ slice_index old r + both_uses one two r = grown r (used_there r u) in
      at_sum (slice_index new r) (slice_index old r) (both_uses one two r) (limit_at limits r) e
      (elim (one_used (some_uses one r) (some_uses two r) u) [
        | inl v ↦ h r v
        | inr v ↦ k r v
      ])

  pub one_fits : FitsWith old (λ r. both_uses one two r) limits → (r : ℕ) → 0 < some_uses one r → pos (slice_index new r) ≤ℤ limit_at limits r
  one_fits h r v =
      let u : 0 < both_uses one two r = omega arith in
      of_sum (slice_index new r) (slice_index old r) (both_uses one two r) (limit_at limits r) (grown r (used_there r u)) (h r u)

  pub two_fits : FitsWith old (λ r. both_uses one two r) limits → (r : ℕ) → 0 < some_uses two r → pos (slice_index new r) ≤ℤ limit_at limits r
  two_fits h r v =
      let u : 0 < both_uses one two r = omega arith in
      of_sum (slice_index new r) (slice_index old r) (both_uses one two r) (limit_at limits r) (grown r (used_there r u)) (h r u)

  -- counts within limits stay within them
  pub stays_within : length new ≡ length old → FitsWith old (λ r. both_uses one two r) limits → AreWithin old limits → AreWithin new limits
  stays_within e h all r l = elim (cases_lt 0 (both_uses one two r)) [
    | inl u ↦ of_sum (slice_index new r) (slice_index old r) (both_uses one two r) (limit_at limits r) (grown r (omega arith)) (h r u)
    | inr none ↦
        let same : slice_index new r ≡ slice_index old r = omega (arith, grown r (omega arith), none) in
        subst (λ (n : ℕ). pos n ≤ℤ limit_at limits r) (sym same) (all r (omega arith))
  ]

-- what was added and taken away again
pub back_again : (old one both mid new : List ℕ) (f g : ℕ → ℕ) → length one ≡ length old → length both ≡ length old → length mid ≡ length old → length new ≡ length old →
    GrowsBy old one f → GrowsBy one both g → GrowsBy mid both g → GrowsBy new mid f → new ≡ old
back_again old one both mid new f g a b c d h k m n =
    same_number_lists new old d
    (λ r l. omega (arith, h r (omega arith), k r (omega arith), m r (omega arith), n r l))
