-- What a reader of single lines answers, before lines are paired.
use Rattle.std.specs.Prelude.{◌≡◌, ℕ, ◌<◌, length, List, [], ◌∷◌, Option, Some, None}
use Rattle.season_days.specs.Term.{Term}
use Rattle.slot_text.specs.declared.lines.TheConstants.{LONGEST_LINE}
use Rattle.scr_reader.specs.Rows.{Row, remark, entry, question, IsRow, IsRowOrNone, IsBadField}
use Rattle.scr_reader.specs.Messages.{IsShort}
use Rattle.scr_reader.specs.declared.rows.Reading.{Reading}
use Rattle.scr_reader.specs.declared.rows.Reading.TheVariants.{Remark, LongRemark, TooLong, Bad, Entry, Question}

-- the row that it is, if it is one
abbrev pub row_read : Reading → Option Row
row_read Remark = Some remark
row_read LongRemark = Some remark
row_read TooLong = None
row_read (Bad field) = None
row_read (Entry line) = Some (entry line)
row_read (Question flight) = Some (question flight)

-- its length, and its first field that has not its form
abbrev pub HasOwn : Term → List ℕ → Reading → Type 0
HasOwn season line Remark = IsShort line
HasOwn season line LongRemark = LONGEST_LINE < length line
HasOwn season line TooLong = LONGEST_LINE < length line
HasOwn season line (Bad field) = IsBadField season line field
HasOwn season line (Entry value) = IsShort line
HasOwn season line (Question flight) = IsShort line

-- the reading says what the line is by itself
pub record IsRowReading (season : Term) (line : List ℕ) (reading : Reading) : Type 0 where
  pub row : IsRowOrNone season line (row_read reading)
  pub only : (row : Row) → IsRow season line row → row_read reading ≡ Some row
  pub own : HasOwn season line reading

-- the readings are those of the lines, in order
abbrev pub AreReadings : Term → List (List ℕ) → List Reading → Type 0
AreReadings season [] [] = Unit {0}
AreReadings season [] (reading ∷ readings) = ⊥
AreReadings season (line ∷ lines) [] = ⊥
AreReadings season (line ∷ lines) (reading ∷ readings) =
    IsRowReading season line reading × AreReadings season lines readings
