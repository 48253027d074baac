-- Strips that together use each resource at least as often as others.
use Rattle.std.specs.Prelude.{◌≡◌, ℕ, ◌+◌, ◌<◌, ◌≤◌, ◌^◌, List, length, slice_index_or, nat_eq, if◌then◌else◌, sum_by}
use Rattle.choice_problem.specs.declared.strips.Strip.{Strip}
use Rattle.choice_problem.specs.Strips.{strip_uses, IsStripInRange}
use Rattle.dual_bound.specs.declared.covers.Held.{Held}

-- how often the strips use a resource
abbrev pub cover_uses : List Held → ℕ → ℕ
cover_uses cover r = sum_by (λ h. strip_uses h.strip r) cover

-- how often those that hold a strip of this part do
abbrev pub held_uses : ℕ → List Held → ℕ → ℕ
held_uses part cover r = sum_by (λ h. if nat_eq h.part part then strip_uses h.strip r else 0) cover

abbrev pub held_at : List Held → ℕ → Held
held_at cover k = slice_index_or cover k
    (record { strip = record { first = 0; width = 0; gap = 0; times = 0 }; part = 0 })

abbrev pub AreHeldIn : ℕ → List Held → Type 0
AreHeldIn resources cover = (k : ℕ) → k < length cover →
    IsStripInRange resources (held_at cover k).strip

-- each run of the strip lies within the run of the other one that has its number
pub record LiesIn (strip other : Strip) : Type 0 where
  pub gap : other.gap ≡ strip.gap
  pub times : other.times ≡ strip.times
  pub from : other.first ≤ strip.first
  pub to : strip.first + strip.width ≤ other.first + other.width

-- the held strip can become wider by a strip of the part
pub record CanHold (held : Held) (strip : Strip) (part : ℕ) : Type 0 where
  pub other : held.part ≡ part → ⊥
  pub gap : held.strip.gap ≡ strip.gap
  pub times : held.strip.times ≡ strip.times
  pub held_end : held.strip.first + held.strip.width < 2 ^ 32
  pub strip_end : strip.first + strip.width < 2 ^ 32
