-- Strips that hold others.
use Rattle.std.proofs.Common.{◌≡◌, ℕ, ◌+◌, ◌-◌, ◌*◌, ◌<◌, ◌≤◌, arith, List, length, set, inl, inr, Bool, true, false}
use Rattle.std.specs.Prelude.{if◌then◌else◌, nat_eq, nat_le, nat_lt, ◌&&◌}
use Rattle.std.proofs.lemmas.Grind.{common_steps}
use Rattle.std.proofs.lemmas.Bool.{cases_eq}
use Rattle.std.proofs.lemmas.List.{get_or-set_same, get_or-set_other, length-set}
use Rattle.std.proofs.lemmas.List.Sums.{sum_by-set, sum_by-le-sum_by}
use Rattle.finite_sums.proofs.SumLemmas.{sum_below-le}
use Rattle.choice_problem.specs.declared.strips.Strip.{Strip}
use Rattle.choice_problem.specs.Strips.{run_start, is_in_run, strip_uses, IsStripInRange}
use Rattle.dual_bound.specs.declared.covers.Held.{Held}
use Rattle.dual_bound.specs.Covers.{cover_uses, held_uses, held_at, AreHeldIn, LiesIn, CanHold}

abbrev pub none : Held
none = record { strip = record { first = 0; width = 0; gap = 0; times = 0 }; part = 0 }

one_in : (a w b v r : ℕ) → b ≤ a → a + w ≤ b + v → (if nat_le a r && nat_lt r (a + w) then 1 else 0) ≤ (if nat_le b r && nat_lt r (b + v) then 1 else 0)
one_in a w b v r from to = grind (arith, common_steps)

pub LiesIn-uses : (s o : Strip) (r : ℕ) → LiesIn s o → strip_uses s r ≤ strip_uses o r
LiesIn-uses s o r h = rw h.times
    (sum_below-le s.times (λ i. if is_in_run s r i then 1 else 0) (λ i. if is_in_run o r i then 1 else 0)
    (λ i l. one_in (run_start s i) s.width (run_start o i) o.width r (rw h.gap (omega (arith, h.from))) (rw h.gap (omega (arith, h.to)))))

pub LiesIn-range : (resources : ℕ) (s o hull : Strip) → LiesIn s hull → IsStripInRange resources s → IsStripInRange resources o → o.gap ≡ s.gap → o.times ≡ s.times →
    ((end : ℕ) → s.first + s.width ≤ end → o.first + o.width ≤ end → hull.first + hull.width ≤ end) → IsStripInRange resources hull
LiesIn-range resources s o hull h a b gap times least = λ i l.
    let one : run_start s i + s.width ≤ resources = a i (rw h.times at l) in
    let other : run_start o i + o.width ≤ resources = b i (rw times (rw h.times at l)) in
    let two : (o.first + i * s.gap) + o.width ≤ resources = rw gap at other in
    let end : hull.first + hull.width ≤ resources - i * s.gap = least (resources - i * s.gap) (omega (arith, one)) (omega (arith, two)) in
    rw h.gap (omega (arith, one, end))

own : (part r : ℕ) (h : Held) → h.part ≡ part → (if nat_eq h.part part then strip_uses h.strip r else 0) ≡ strip_uses h.strip r
own part r h e = picked h.part part (strip_uses h.strip r) e
  where
    picked : (a b v : ℕ) → a ≡ b → (if nat_eq a b then v else 0) ≡ v
    picked a b v e = grind (arith, common_steps)

others : (part r : ℕ) (h : Held) → (h.part ≡ part → ⊥) → (if nat_eq h.part part then strip_uses h.strip r else 0) ≡ 0
others part r h o = left h.part part (strip_uses h.strip r) o
  where
    left : (a b v : ℕ) → (a ≡ b → ⊥) → (if nat_eq a b then v else 0) ≡ 0
    left a b v o = elim (cases_eq a b) [
      | inl e ↦ absurd (o e)
      | inr n ↦ grind (arith, common_steps)
    ]

pub held-le : (part r : ℕ) (cover : List Held) → held_uses part cover r ≤ cover_uses cover r
held-le part r cover = sum_by-le-sum_by (λ (h : Held). if nat_eq h.part part then strip_uses h.strip r else 0) (λ (h : Held). strip_uses h.strip r) cover (λ h. some (nat_eq h.part part) (strip_uses h.strip r))
  where
    some : (b : Bool) (v : ℕ) → (if b then v else 0) ≤ v
    some true v = omega arith
    some false v = omega arith

-- a held strip becomes wider
pub held-wider : (cover : List Held) (k part r : ℕ) (s : Strip) (new : Held) → k < length cover → CanHold (held_at cover k) s part → new.part ≡ part → LiesIn s new.strip →
    held_uses part cover r + strip_uses s r ≤ held_uses part (set cover k new) r
held-wider cover k part r s new l h e i =
    omega (arith, sum_by-set (λ (h : Held). if nat_eq h.part part then strip_uses h.strip r else 0) cover k new none l, others part r (held_at cover k) h.other, own part r new e, LiesIn-uses s new.strip r i)

pub cover-wider : (cover : List Held) (k r : ℕ) (new : Held) → k < length cover → LiesIn (held_at cover k).strip new.strip → cover_uses cover r ≤ cover_uses (set cover k new) r
cover-wider cover k r new l i = omega (arith, sum_by-set (λ (h : Held). strip_uses h.strip r) cover k new none l, LiesIn-uses (held_at cover k).strip new.strip r i)

pub range-wider : (resources k : ℕ) (cover : List Held) (new : Held) → k < length cover → IsStripInRange resources new.strip → AreHeldIn resources cover → AreHeldIn resources (set cover k new)
range-wider resources k cover new l s h = λ j m. elim (cases_eq j k) [
  | inl e ↦ rw (e, get_or-set_same cover k new none l) s
  | inr o ↦ rw (get_or-set_other cover k j new none o) (h j (rw (length-set cover k new) at m))
]
