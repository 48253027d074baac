-- Counts of uses that are at least those of each part of a unit.
use Rattle.std.proofs.Common.{◌≡◌, ℕ, ◌+◌, ◌-◌, ◌<◌, ◌≤◌, ◌^◌, min, refl, subst, arith, List, [], length, set, inl, inr, Bool, true, false, Option, Some, None}
use Rattle.std.specs.Prelude.{slice_index, slice_index_or}
use Rattle.std.proofs.Math.Path.{fun_ext}
use Rattle.std.proofs.lemmas.Grind.{common_steps}
use Rattle.std.proofs.lemmas.Bool.{cases_eq}
use Rattle.std.proofs.lemmas.List.{get_or-set_same, get_or-set_other, length-set}
use Rattle.choice_problem.specs.Strips.{part_uses}
use Rattle.choice_problem.specs.Loops.{run_uses}
use Rattle.choice_problem.specs.Problems.{ChooserView, IsChooser, alt_at, named_uses, chooser_uses}
use Rattle.dual_bound.specs.Kept.{AreAtLeast, AreRaised, MarkNamed}

-- the same uses
pub AreAtLeast-same : (counts : List ℕ) (uses others : ℕ → ℕ) → ((r : ℕ) → uses r ≡ others r) → AreAtLeast counts uses → AreAtLeast counts others
AreAtLeast-same counts uses others e h = subst (λ f. AreAtLeast counts f) (fun_ext e) h

pub run_uses-none : (start r : ℕ) → run_uses start start r ≡ 0
run_uses-none start r = grind (arith, common_steps)

pub run_uses-last : (start at : ℕ) → start ≤ at → run_uses start (at + 1) at ≡ 1
run_uses-last start at l = grind (arith, common_steps)

pub run_uses-past : (start at : ℕ) → run_uses start at at ≡ 0
run_uses-past start at = grind (arith, common_steps)

pub run_uses-other : (start at r : ℕ) → (r ≡ at → ⊥) → run_uses start (at + 1) r ≡ run_uses start at r
run_uses-other start at r o = grind (arith, common_steps)

pub AreAtLeast-start : (start : ℕ) (uses : ℕ → ℕ) (counts : List ℕ) → AreAtLeast counts uses → AreAtLeast counts (λ r. uses r + run_uses start start r)
AreAtLeast-start start uses counts h = AreAtLeast-same counts uses (λ r. uses r + run_uses start start r) (λ r. omega (arith, run_uses-none start r)) h

-- one use more
pub AreAtLeast-more : (start at count : ℕ) (uses : ℕ → ℕ) (counts : List ℕ) → start ≤ at → at < length counts → count ≡ min (slice_index counts at + 1) (2 ^ 32 - 1) →
    AreAtLeast counts (λ r. uses r + run_uses start at r) → AreAtLeast (set counts at count) (λ r. uses r + run_uses start (at + 1) r)
AreAtLeast-more start at count uses counts l b e h = λ r m. elim (cases_eq r at) [
  | inl same ↦ rw (same, get_or-set_same counts at count 0 b) (omega (arith, e, h at b, run_uses-past start at, run_uses-last start at l))
  | inr o ↦ rw (get_or-set_other counts at r count 0 o, run_uses-other start at r o) (h r (rw (length-set counts at count) at m))
]

pub AreRaised-set : (old counts : List ℕ) (at count : ℕ) → AreRaised old counts → at < length counts → slice_index counts at ≤ count → AreRaised old (set counts at count)
AreRaised-set old counts at count h b l = λ r m. elim (cases_eq r at) [
  | inl e ↦ let new : slice_index (set counts at count) at ≡ count = get_or-set_same counts at count 0 b in
      let was : slice_index old at ≤ slice_index counts at = h at (rw e at m) in
      rw (e, new) (omega (arith, was, l))
  | inr o ↦ rw (get_or-set_other counts at r count 0 o) (h r m)
]

-- the uses of the part that an alternative may name
named-counted : (m : ChooserView) (marks : List Bool) (named : Option ℕ) (base counts : List ℕ) → length base ≡ length counts → AreRaised base counts →
    ((k : ℕ) → named ≡ Some k → k < length m.parts) → ((k : ℕ) → named ≡ Some k → slice_index_or marks k false ≡ true) →
    ((k : ℕ) → k < length m.parts → slice_index_or marks k false ≡ true → AreAtLeast counts (λ r. slice_index base r + part_uses (slice_index_or m.parts k []) r)) →
    AreAtLeast counts (λ r. slice_index base r + named_uses m named r)
named-counted m marks None base counts e raised there marked h = λ r l. omega (arith, raised r (omega (arith, e, l)))
named-counted m marks (Some k) base counts e raised there marked h = h k (there k refl) (marked k refl)

-- the uses of an alternative, by the parts that it names first and second
pub alt-counted : (m : ChooserView) (first second : List Bool) (old middle new : List ℕ) → IsChooser m → length old ≡ length middle → length middle ≡ length new →
    MarkNamed false m.alts (length m.alts) first → MarkNamed true m.alts (length m.alts) second → AreRaised old middle → AreRaised middle new →
    ((k : ℕ) → k < length m.parts → slice_index_or first k false ≡ true → AreAtLeast middle (λ r. slice_index old r + part_uses (slice_index_or m.parts k []) r)) →
    ((k : ℕ) → k < length m.parts → slice_index_or second k false ≡ true → AreAtLeast new (λ r. slice_index middle r + part_uses (slice_index_or m.parts k []) r)) →
    (a : ℕ) → a < length m.alts → AreAtLeast new (λ r. slice_index old r + chooser_uses m a r)
alt-counted m first second old middle new v e f one two raised again h k a l = λ r b.
    let left = named-counted m first (alt_at m a).one old middle e raised (v.one a l) (λ n s. one a n l s) h r (omega (arith, f, b)) in
    let right = named-counted m second (alt_at m a).two middle new f again (v.two a l) (λ n s. two a n l s) k r b in
    omega (arith, left, right)
