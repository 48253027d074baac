-- The first shift of a span from a minute on.
use Rattle.std.proofs.Common.{◌≡◌, ◌⊎◌, ℕ, ◌+◌, ◌-◌, ◌%◌, ◌<◌, ◌≤◌, max, false, [], ◌∷◌, arith, inl, inr}
use Rattle.std.proofs.lemmas.Bool.{cases_lt}
use Rattle.std.proofs.lemmas.Nat.{mod_below}
use Rattle.series_model.specs.declared.shifts.Shifts.{Shifts}
use Rattle.series_model.specs.Options.{is_shift}
use Rattle.series_model.specs.Loops.{shifts_from, AreShifts, IsShiftOf}
use Rattle.series_model.proofs.RangeLemmas.{filter-range_first, filter-range_none}
use Rattle.series_model.proofs.RestLemmas.{gap_rest, gap_none, shift_yes, shift_early, shift_late}

-- the next minute with the requested remainder
abbrev pub IsGap : Shifts → ℕ → ℕ → Type 0
IsGap s from gap = (from % s.step + gap ≡ s.requested % s.step) ⊎ (from % s.step + gap ≡ s.requested % s.step + s.step)

rests : (s : Shifts) (from gap : ℕ) → AreShifts s → IsGap s from gap → (from + gap) % s.step ≡ s.requested % s.step
rests s from gap is rest = gap_rest s.step from gap (s.requested % s.step) is.step (mod_below s.requested s.step is.step) rest

-- before it there is no shift
early : (s : Shifts) (given from gap m : ℕ) → AreShifts s → from ≡ max given (s.requested - s.flex) → IsGap s from gap → gap < s.step → given ≤ m → m < from + gap → is_shift s.step s.flex s.requested m ≡ false
early s given from gap m is start rest few le lt =
    elim (cases_lt m from) [
      | inl before ↦ shift_early s.step s.flex s.requested m (omega (arith, start, before, le))
      | inr on ↦ gap_none s.step s.flex s.requested from gap m is.step few (rests s from gap is rest) on lt
    ]

pub first_shift : (s : Shifts) (given from last gap : ℕ) → AreShifts s → from ≡ max given (s.requested - s.flex) → last ≤ s.high → last ≤ s.requested + s.flex → from ≤ last → IsGap s from gap → gap < s.step → gap ≤ last - from
    → shifts_from s given ≡ (from + gap) ∷ shifts_from s (from + gap + 1)
first_shift s given from last gap is start high late some rest few near =
    filter-range_first (is_shift s.step s.flex s.requested) given (from + gap) (s.high + 1) (omega (arith, start)) (omega (arith, high, near, some))
    (λ m le lt. early s given from gap m is start rest few le lt)
    (shift_yes s.step s.flex s.requested (from + gap) is.step (rests s from gap is rest) (omega (arith, late, near, some)) (omega (arith, start)))

pub found_shift : (s : Shifts) (given from last gap : ℕ) → AreShifts s → from ≡ max given (s.requested - s.flex) → last ≤ s.requested + s.flex → from ≤ last → IsGap s from gap → gap ≤ last - from → IsShiftOf s (from + gap)
found_shift s given from last gap is start late some rest near = record {
  rest = rests s from gap is rest;
  early = omega (arith, start);
  late = omega (arith, late, near, some);
}

-- nothing is left
past : (s : Shifts) (m last : ℕ) → ((k : ℕ) → k ≤ s.high → k ≤ s.requested + s.flex → k ≤ last) → m ≤ s.high → last < m → is_shift s.step s.flex s.requested m ≡ false
past s m last most high lt =
    elim (cases_lt (s.requested + s.flex) m) [
      | inl late ↦ shift_late s.step s.flex s.requested m late
      | inr within ↦ absurd (let le = most m high within in omega (arith, le, lt))
    ]

pub no_shift : (s : Shifts) (given from last : ℕ) → from ≡ max given (s.requested - s.flex) → ((k : ℕ) → k ≤ s.high → k ≤ s.requested + s.flex → k ≤ last) → last < from → shifts_from s given ≡ []
no_shift s given from last start most none =
    filter-range_none (is_shift s.step s.flex s.requested) given (s.high + 1 - given) (λ m le lt. elim (cases_lt m from) [
      | inl before ↦ shift_early s.step s.flex s.requested m (omega (arith, start, before, le))
      | inr on ↦ past s m last most (omega (arith, le, lt)) (omega (arith, none, on))
    ])

pub far_shift : (s : Shifts) (given from last gap : ℕ) → AreShifts s → from ≡ max given (s.requested - s.flex) → ((k : ℕ) → k ≤ s.high → k ≤ s.requested + s.flex → k ≤ last) → from ≤ last → IsGap s from gap → gap < s.step → last - from < gap
    → shifts_from s given ≡ []
far_shift s given from last gap is start most some rest few far =
    filter-range_none (is_shift s.step s.flex s.requested) given (s.high + 1 - given) (λ m le lt. elim (cases_lt m (from + gap)) [
      | inl before ↦ early s given from gap m is start rest few le before
      | inr on ↦ past s m last most (omega (arith, le, lt)) (omega (arith, some, far, on))
    ])
