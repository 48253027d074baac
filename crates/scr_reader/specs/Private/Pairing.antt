-- Pairs and faults, over the readings of single lines.
use Rattle.std.specs.Prelude.{◌≡◌, ◌⊎◌, ◌↔◌, ℕ, ◌+◌, Bool, IsTrue, List, [], ◌∷◌, map, Option, Some, None, IsSomeAnd}
use Rattle.scr_reader.specs.Rows.{Row, remark, entry, question}
use Rattle.scr_reader.specs.Private.Readings.{row_read}
use Rattle.scr_reader.specs.Messages.{next_row, RowIsChange, LineIsPaired}
use Rattle.scr_reader.specs.declared.line.Line.{Line}
use Rattle.scr_reader.specs.declared.rows.Reading.{Reading}
use Rattle.scr_reader.specs.declared.rows.Reading.TheVariants.{Remark, LongRemark, TooLong as OverLong, Bad, Entry, Question}
use Rattle.scr_reader.specs.declared.fault.ScrFault.{ScrFault}
use Rattle.scr_reader.specs.declared.fault.ScrFault.TheVariants.{BadLine, Unpaired, TooLong}

abbrev pub rows_read : List Reading → List (Option Row)
rows_read readings = map row_read readings

-- the line, if the row is one
abbrev pub entry_of : Option Row → Option Line
entry_of None = None
entry_of (Some remark) = None
entry_of (Some (entry line)) = Some line
entry_of (Some (question flight)) = None

-- whether the last row that is no remark is a line that changes
abbrev pub Follows : Bool → List (Option Row) → Type 0
Follows follows before = IsTrue follows ↔ IsSomeAnd (next_row before) RowIsChange

-- the line has its form and is paired
abbrev pub IsGoodReading : Reading → List (Option Row) → List (Option Row) → Type 0
IsGoodReading Remark before after = Unit {0}
IsGoodReading LongRemark before after = ⊥
IsGoodReading OverLong before after = ⊥
IsGoodReading (Bad field) before after = ⊥
IsGoodReading (Entry line) before after = LineIsPaired line.code line before after
IsGoodReading (Question flight) before after = Unit {0}

-- its own fault
abbrev pub HasFaultAt : ℕ → Reading → List (Option Row) → List (Option Row) → ScrFault → Type 0
HasFaultAt number Remark before after fault = ⊥
HasFaultAt number LongRemark before after fault = fault ≡ TooLong number
HasFaultAt number OverLong before after fault = fault ≡ TooLong number
HasFaultAt number (Bad field) before after fault = fault ≡ BadLine number field
HasFaultAt number (Entry line) before after fault =
    (LineIsPaired line.code line before after → ⊥) × (fault ≡ Unpaired number)
HasFaultAt number (Question flight) before after fault = ⊥

abbrev pub AreGoodReadings : List (Option Row) → List Reading → Type 0
AreGoodReadings before [] = Unit {0}
AreGoodReadings before (reading ∷ readings) =
    IsGoodReading reading before (rows_read readings)
    × AreGoodReadings (row_read reading ∷ before) readings

-- the fault of the first line that has one
abbrev pub IsFirstAt : ℕ → List (Option Row) → List Reading → ScrFault → Type 0
IsFirstAt number before [] fault = ⊥
IsFirstAt number before (reading ∷ readings) fault =
    HasFaultAt number reading before (rows_read readings) fault
    ⊎ (IsGoodReading reading before (rows_read readings)
    × IsFirstAt (number + 1) (row_read reading ∷ before) readings fault)
