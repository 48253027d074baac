-- The first line of a text that is not in a form.
use Rattle.std.specs.Prelude.{◌≡◌, ℕ, ◌-◌, ◌≤◌, List, take}
use Rattle.slot_text.specs.Ended.{ended_lines}

-- the first lines of the text, so many, are those of a text in the form
pub record BeginsInForm (IsInForm : List ℕ → Type 0) (text : List ℕ) (count : ℕ) : Type 0 where
  pub whole : List ℕ
  pub in_form : IsInForm whole
  pub same : take count (ended_lines text) ≡ take count (ended_lines whole)

-- The first line, counted from 1, that is not in the form: the lines before it are those of a text
-- in the form, and with it they are those of none. Where a line is missing, it is the place after
-- the last one.
pub record IsFirstBadLine (IsInForm : List ℕ → Type 0) (text : List ℕ) (line : ℕ) : Type 0 where
  pub counted : 1 ≤ line
  pub before : BeginsInForm IsInForm text (line - 1)
  pub bad : BeginsInForm IsInForm text line → ⊥
