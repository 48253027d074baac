-- Where a reading stands, and what it found.
use Rattle.std.specs.Prelude.{ℕ, ◌+◌, List, [], ◌∷◌, Option, Some, None, Result, Ok, Err}
use Rattle.cert_format.specs.Lines.{Word}
use Rattle.cert_format.specs.Private.Cuts.{cert_lines_of}
use Rattle.cert_format.specs.declared.place.Place.{Place}

-- the lines that are left, and the number of the first of them
pub record Spot : Type 0 where
  pub line : ℕ
  pub lines : List (List Word)

abbrev pub spot_of : Place → Spot
spot_of p = record { line = p.line; lines = cert_lines_of p.rest.now }

-- a value and what follows it, or the number of the line that isn't in the form
abbrev pub Read : Type 0 → Type 0
Read A = Result (A × Spot) ℕ

infixl 10 ◌>>=◌
abbrev pub ◌>>=◌ : {A B : Type 0} → Result A ℕ → (A → Result B ℕ) → Result B ℕ
(Ok x) >>= f = f x
(Err line) >>= f = Err line

-- the words of one line, read by f
abbrev pub judged : {A : Type 0} → ℕ → List (List Word) → Option A → Read A
judged line rest None = Err line
judged line rest (Some x) = Ok (x, record { line = line + 1; lines = rest })

abbrev pub line_by_lines : {A : Type 0} → (List Word → Option A) → ℕ → List (List Word) → Read A
line_by_lines f line [] = Err line
line_by_lines f line (ws ∷ rest) = judged line rest (f ws)

abbrev pub line_by : {A : Type 0} → (List Word → Option A) → Spot → Read A
line_by f s = line_by_lines f s.line s.lines
