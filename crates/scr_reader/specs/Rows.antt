-- What a line of a message is by itself, below the header.
use Rattle.std.specs.Prelude.{◌≡◌, ◌≢◌, ◌⊎◌, ℕ, ◌≤◌, Bool, true, false, not, ◌&&◌, ◌||◌, ◌==◌, if◌then◌else◌, List, [], ◌∷◌, length, Option, Some, None}
use Rattle.slot_text.specs.Fields.{begins_in_field, fields_of, is_blank_line}
use Rattle.season_days.specs.Term.{Term}
use Rattle.slot_text.specs.declared.lines.TheConstants.{LONGEST_LINE}
use Rattle.scr_reader.specs.Parts.{IsFlight}
use Rattle.scr_reader.specs.Shapes.{IsLine, IsFaultyField}
use Rattle.scr_reader.specs.declared.line.Line.{Line}
use Rattle.scr_reader.specs.declared.line.Flight.{Flight}

-- the line without its trailing blanks
unfoldable pub trimmed : List ℕ → List ℕ
trimmed [] = []
trimmed (b ∷ line) = if is_blank_line (b ∷ line) then [] else b ∷ trimmed line

-- the fields of a line; a blank in front of them makes an empty first field, which has no form
abbrev pub line_fields : List ℕ → List (List ℕ)
line_fields line = if begins_in_field line then fields_of line else [] ∷ fields_of line

-- SI or GI, followed by a blank or the end
abbrev pub is_remark : List ℕ → Bool
is_remark (a ∷ b ∷ line) = (((a == 83) || (a == 71)) && (b == 73)) && not (begins_in_field line)
is_remark line = false

-- whether the first field begins with Q
abbrev pub begins_with_q : List ℕ → Bool
begins_with_q [] = false
begins_with_q (b ∷ text) = b == 81

abbrev pub is_question : List (List ℕ) → Bool
is_question [] = false
is_question (first ∷ fields) = begins_with_q first

-- Q followed by the flight
abbrev pub IsAskedFlight : List ℕ → Flight → Type 0
IsAskedFlight [] flight = ⊥
IsAskedFlight (b ∷ text) flight = (b ≡ 81) × IsFlight text flight

-- one field, Q followed by the flight
abbrev pub IsQuestion : List (List ℕ) → Flight → Type 0
IsQuestion [] flight = ⊥
IsQuestion (first ∷ rest) flight = IsAskedFlight first flight × (rest ≡ [])

-- Q is followed by no flight, or a field follows that is one too many
abbrev pub IsFaultyQuestion : List (List ℕ) → ℕ → Type 0
IsFaultyQuestion [] field = ⊥
IsFaultyQuestion (first ∷ rest) field =
    ((field ≡ 1) × ((flight : Flight) → IsAskedFlight first flight → ⊥))
    ⊎ ((field ≡ 2) × (rest ≢ []) × (flight : Flight) × IsAskedFlight first flight)

pub data Row : Type 0 where
  remark : Row
  entry : Line → Row
  question : Flight → Row

-- a line with fields to read: no remark and not too long
pub record HasFields (line : List ℕ) (asks : Bool) : Type 0 where
  pub read : is_remark line ≡ false
  pub short : length line ≤ LONGEST_LINE
  pub kind : is_question (line_fields line) ≡ asks

-- the line, without its end, is this; a remark is one at any length
abbrev pub IsRow : Term → List ℕ → Row → Type 0
IsRow season line remark = is_remark line ≡ true
IsRow season line (entry value) = HasFields line false × IsLine season (line_fields line) value
IsRow season line (question flight) = HasFields line true × IsQuestion (line_fields line) flight

-- what a line is, or that it is nothing
abbrev pub IsRowOrNone : Term → List ℕ → Option Row → Type 0
IsRowOrNone season line (Some row) = IsRow season line row
IsRowOrNone season line None = (row : Row) → IsRow season line row → ⊥

abbrev pub AreRows : Term → List (List ℕ) → List (Option Row) → Type 0
AreRows season [] [] = Unit {0}
AreRows season [] (row ∷ rows) = ⊥
AreRows season (line ∷ lines) [] = ⊥
AreRows season (line ∷ lines) (row ∷ rows) = IsRowOrNone season line row × AreRows season lines rows

-- the first field of a line that has not its form
abbrev pub IsBadField : Term → List ℕ → ℕ → Type 0
IsBadField season line field =
    (HasFields line false × IsFaultyField season (line_fields line) field)
    ⊎ (HasFields line true × IsFaultyQuestion (line_fields line) field)
