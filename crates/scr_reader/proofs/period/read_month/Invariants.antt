use Rattle.std.proofs.Common.{◌≡◌, ℕ, ◌<◌, ◌≤◌}
use Rattle.scr_reader.specs.Parts.{month_text}
use Rattle.scr_reader.proofs.period.read_month.Given as goal

-- the text is the name of none of the months so far
abbrev pub invariant-loop-month : goal.invariant-loop-month
invariant-loop-month l = (m : ℕ) → 1 ≤ m → m < l.month → l.text ≡ month_text m → ⊥
