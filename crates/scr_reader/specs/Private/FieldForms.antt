-- Forms of the code that reads fields, which private contracts alone cite.
use Rattle.std.specs.Prelude.{ℕ, ◌-◌, if◌then◌else◌, List, [], ◌∷◌}
use Rattle.scr_reader.specs.Bytes.{is_digit}
use Rattle.scr_reader.specs.Shapes.{Shape, arrival, departure, turnaround}
use Rattle.scr_reader.specs.declared.line_reader.Movements.{Movements}
use Rattle.scr_reader.specs.declared.line_reader.Movements.TheVariants.{Arrival, Departure, Both}

-- the digit in front, or 0, and what follows it
abbrev pub leading_nights : List ℕ → ℕ
leading_nights [] = 0
leading_nights (b ∷ text) = if is_digit b then b - 48 else 0

abbrev pub after_nights : List ℕ → List ℕ
after_nights [] = []
after_nights (b ∷ text) = if is_digit b then text else b ∷ text

-- a shape, from what its reader answers
abbrev pub shape_named : Movements → Shape
shape_named Arrival = arrival
shape_named Departure = departure
shape_named Both = turnaround
