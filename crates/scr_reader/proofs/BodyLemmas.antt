-- From the readings of lines to the rows below a header, and back.
use Rattle.std.proofs.Common.{◌≡◌, ℕ, ◌+◌, ◌<◌, List, [], ◌∷◌, length, Some, None, refl, sym, ap, ◌∙◌, arith, inl, inr}
use Rattle.std.specs.Prelude.{Option}
use Rattle.std.proofs.lemmas.Bool.{both_ways}
use Rattle.season_days.specs.Term.{Term}
use Rattle.slot_text.specs.declared.lines.TheConstants.{LONGEST_LINE}
use Rattle.scr_reader.specs.Rows.{Row, remark, entry, question, is_remark, is_question, line_fields, IsRow, IsRowOrNone, AreRows, IsBadField}
use Rattle.scr_reader.specs.Private.Readings.{row_read, IsRowReading, AreReadings}
use Rattle.scr_reader.specs.Messages.{IsShort, LineIsPaired, IsGoodRow, AreGood, IsLineFault, IsBodyFault}
use Rattle.scr_reader.specs.Private.Pairing.{rows_read, IsGoodReading, HasFaultAt, AreGoodReadings, IsFirstAt}
use Rattle.scr_reader.specs.declared.line.Line.{Line}
use Rattle.scr_reader.specs.declared.rows.Reading.{Reading}
use Rattle.scr_reader.specs.declared.rows.Reading.TheVariants.{Remark, LongRemark, TooLong as OverLong, Bad, Entry, Question}
use Rattle.scr_reader.specs.declared.fault.ScrFault.{ScrFault}
use Rattle.scr_reader.specs.declared.fault.ScrFault.TheVariants.{BadLine, BadHeader, Unpaired, TooLong, Memory}
use Rattle.scr_reader.proofs.NineLemmas.{faulty_once, faulty_question_once, faulty_no_line, faulty_no_question}

-- ---- the rows of the readings, and no other

pub rows_are : (season : Term) (lines : List (List ℕ)) (readings : List Reading) → AreReadings season lines readings → AreRows season lines (rows_read readings)
rows_are season [] [] are = tt
rows_are season [] (r ∷ readings) are = absurd are
rows_are season (line ∷ lines) [] are = absurd are
rows_are season (line ∷ lines) (r ∷ readings) are = (are.0.row, rows_are season lines readings are.1)

none_same : (season : Term) (line : List ℕ) (row : Option Row) → IsRowOrNone season line row → ((r : Row) → IsRow season line r → ⊥) → None ≡ row
none_same season line None is none = refl
none_same season line (Some row) is none = absurd (none row is)

row_same : (season : Term) (line : List ℕ) (reading : Reading) (row : Option Row) → IsRowReading season line reading → IsRowOrNone season line row → row ≡ row_read reading
row_same season line reading (Some row) is other = sym (is.only row other)
row_same season line reading None is other = none_same season line (row_read reading) is.row other

pub rows_same : (season : Term) (lines : List (List ℕ)) (readings : List Reading) (rows : List (Option Row)) → AreReadings season lines readings → AreRows season lines rows → rows ≡ rows_read readings
rows_same season [] [] [] are read = refl
rows_same season [] [] (row ∷ rows) are read = absurd read
rows_same season [] (r ∷ readings) rows are read = absurd are
rows_same season (line ∷ lines) [] rows are read = absurd are
rows_same season (line ∷ lines) (r ∷ readings) [] are read = absurd read
rows_same season (line ∷ lines) (r ∷ readings) (row ∷ rows) are read =
    let here : row ≡ row_read r = row_same season line r row are.0 read.0 in
    let rest : rows ≡ rows_read readings = rows_same season lines readings rows are.1 read.1 in
    rw (here, rest) refl

-- ---- one line

good_row : (season : Term) (line : List ℕ) (reading : Reading) (before after : List (Option Row)) → IsRowReading season line reading → IsGoodReading reading before after → IsGoodRow line (row_read reading) before after
good_row season line Remark before after is good = (is.own, tt)
good_row season line LongRemark before after is good = absurd good
good_row season line OverLong before after is good = absurd good
good_row season line (Bad field) before after is good = absurd good
good_row season line (Entry value) before after is good = (is.own, good)
good_row season line (Question flight) before after is good = (is.own, tt)

good_back : (season : Term) (line : List ℕ) (reading : Reading) (before after : List (Option Row)) → IsRowReading season line reading → IsGoodRow line (row_read reading) before after → IsGoodReading reading before after
good_back season line Remark before after is good = tt
good_back season line LongRemark before after is good = omega (arith, is.own, good.0)
good_back season line OverLong before after is good = absurd good
good_back season line (Bad field) before after is good = absurd good
good_back season line (Entry value) before after is good = good.1
good_back season line (Question flight) before after is good = tt

bad_at : (season : Term) (number : ℕ) (line : List ℕ) (row : Option Row) (before after : List (Option Row)) (fault : ScrFault) (k : ℕ) → fault ≡ BadLine number k → IsBadField season line k → IsLineFault season number line row before after fault
bad_at season number line row before after fault k is bad = rw is (refl, bad)

long_at : (season : Term) (number : ℕ) (line : List ℕ) (row : Option Row) (before after : List (Option Row)) (fault : ScrFault) → fault ≡ TooLong number → LONGEST_LINE < length line → IsLineFault season number line row before after fault
long_at season number line row before after fault is long = rw is (refl, long)

unpaired_at : (season : Term) (number : ℕ) (line : List ℕ) (value : Line) (before after : List (Option Row)) (fault : ScrFault) → fault ≡ Unpaired number → IsShort line → (LineIsPaired value.code value before after → ⊥) → IsLineFault season number line (Some (entry value)) before after fault
unpaired_at season number line value before after fault is short none = rw is (refl, short, none)

line_fault : (season : Term) (number : ℕ) (line : List ℕ) (reading : Reading) (before after : List (Option Row)) (fault : ScrFault) → IsRowReading season line reading → HasFaultAt number reading before after fault → IsLineFault season number line (row_read reading) before after fault
line_fault season number line Remark before after fault is has = absurd has
line_fault season number line LongRemark before after fault is has = long_at season number line (Some remark) before after fault has is.own
line_fault season number line OverLong before after fault is has = long_at season number line None before after fault has is.own
line_fault season number line (Bad field) before after fault is has = bad_at season number line None before after fault field has is.own
line_fault season number line (Entry value) before after fault is has = unpaired_at season number line value before after fault has.1 is.own has.0
line_fault season number line (Question flight) before after fault is has = absurd has

-- a line has one bad field
pub bad_once : (season : Term) (line : List ℕ) (a b : ℕ) → IsBadField season line a → IsBadField season line b → a ≡ b
bad_once season line a b (inl x) (inl y) = faulty_once season (line_fields line) a b x.1 y.1
bad_once season line a b (inl x) (inr y) = absurd (both_ways (is_question (line_fields line)) x.0.kind y.0.kind)
bad_once season line a b (inr x) (inl y) = absurd (both_ways (is_question (line_fields line)) y.0.kind x.0.kind)
bad_once season line a b (inr x) (inr y) = faulty_question_once (line_fields line) a b x.1 y.1

pub bad_is_short : (season : Term) (line : List ℕ) (k : ℕ) → IsBadField season line k → IsShort line
bad_is_short season line k (inl x) = x.0.short
bad_is_short season line k (inr x) = x.0.short

pub bad_no_row : (season : Term) (line : List ℕ) (k : ℕ) (row : Row) → IsBadField season line k → IsRow season line row → ⊥
bad_no_row season line k remark (inl x) is = both_ways (is_remark line) x.0.read is
bad_no_row season line k remark (inr x) is = both_ways (is_remark line) x.0.read is
bad_no_row season line k (entry value) (inl x) is = faulty_no_line season (line_fields line) k value x.1 is.1
bad_no_row season line k (entry value) (inr x) is = both_ways (is_question (line_fields line)) is.0.kind x.0.kind
bad_no_row season line k (question flight) (inl x) is = both_ways (is_question (line_fields line)) x.0.kind is.0.kind
bad_no_row season line k (question flight) (inr x) is = faulty_no_question (line_fields line) k flight x.1 is.1

fault_back : (season : Term) (number : ℕ) (line : List ℕ) (reading : Reading) (before after : List (Option Row)) (fault : ScrFault) → IsRowReading season line reading → IsLineFault season number line (row_read reading) before after fault → HasFaultAt number reading before after fault
fault_back season number line Remark before after (TooLong at) is has = omega (arith, is.own, has.1)
fault_back season number line LongRemark before after (TooLong at) is has = ap TooLong has.0
fault_back season number line OverLong before after (TooLong at) is has = ap TooLong has.0
fault_back season number line (Bad field) before after (TooLong at) is has = absurd (omega (arith, bad_is_short season line field is.own, has.1))
fault_back season number line (Entry value) before after (TooLong at) is has = absurd (omega (arith, is.own, has.1))
fault_back season number line (Question flight) before after (TooLong at) is has = omega (arith, is.own, has.1)
fault_back season number line Remark before after (BadLine at k) is has = bad_no_row season line k remark has.1 is.row
fault_back season number line LongRemark before after (BadLine at k) is has = absurd (bad_no_row season line k remark has.1 is.row)
fault_back season number line OverLong before after (BadLine at k) is has = absurd (omega (arith, bad_is_short season line k has.1, is.own))
fault_back season number line (Bad field) before after (BadLine at k) is has =
    let same : k ≡ field = bad_once season line k field has.1 is.own in
    rw (has.0, same) refl
fault_back season number line (Entry value) before after (BadLine at k) is has = absurd (bad_no_row season line k (entry value) has.1 is.row)
fault_back season number line (Question flight) before after (BadLine at k) is has = bad_no_row season line k (question flight) has.1 is.row
fault_back season number line Remark before after (Unpaired at) is has = has.2 tt
fault_back season number line LongRemark before after (Unpaired at) is has = absurd (has.2 tt)
fault_back season number line OverLong before after (Unpaired at) is has = absurd has.2
fault_back season number line (Bad field) before after (Unpaired at) is has = absurd has.2
fault_back season number line (Entry value) before after (Unpaired at) is has = (has.2, ap Unpaired has.0)
fault_back season number line (Question flight) before after (Unpaired at) is has = has.2 tt
fault_back season number line reading before after (BadHeader at) is has = absurd has
fault_back season number line reading before after Memory is has = absurd has

-- ---- all lines

pub good_all : (season : Term) (before : List (Option Row)) (lines : List (List ℕ)) (readings : List Reading) → AreReadings season lines readings → AreGoodReadings before readings → AreGood before lines (rows_read readings)
good_all season before [] [] are good = tt
good_all season before [] (r ∷ readings) are good = absurd are
good_all season before (line ∷ lines) [] are good = absurd are
good_all season before (line ∷ lines) (r ∷ readings) are good =
    (good_row season line r before (rows_read readings) are.0 good.0, good_all season (row_read r ∷ before) lines readings are.1 good.1)

pub good_all_back : (season : Term) (before : List (Option Row)) (lines : List (List ℕ)) (readings : List Reading) → AreReadings season lines readings → AreGood before lines (rows_read readings) → AreGoodReadings before readings
good_all_back season before [] [] are good = tt
good_all_back season before [] (r ∷ readings) are good = absurd are
good_all_back season before (line ∷ lines) [] are good = absurd are
good_all_back season before (line ∷ lines) (r ∷ readings) are good =
    (good_back season line r before (rows_read readings) are.0 good.0, good_all_back season (row_read r ∷ before) lines readings are.1 good.1)

pub fault_all : (season : Term) (number : ℕ) (before : List (Option Row)) (lines : List (List ℕ)) (readings : List Reading) (fault : ScrFault) → AreReadings season lines readings → IsFirstAt number before readings fault → IsBodyFault season number before lines (rows_read readings) fault
fault_all season number before [] [] fault are has = has
fault_all season number before [] (r ∷ readings) fault are has = absurd are
fault_all season number before (line ∷ lines) [] fault are has = absurd are
fault_all season number before (line ∷ lines) (r ∷ readings) fault are (inl here) = inl (line_fault season number line r before (rows_read readings) fault are.0 here)
fault_all season number before (line ∷ lines) (r ∷ readings) fault are (inr later) =
    inr (good_row season line r before (rows_read readings) are.0 later.0, fault_all season (number + 1) (row_read r ∷ before) lines readings fault are.1 later.1)

pub fault_all_back : (season : Term) (number : ℕ) (before : List (Option Row)) (lines : List (List ℕ)) (readings : List Reading) (fault : ScrFault) → AreReadings season lines readings → IsBodyFault season number before lines (rows_read readings) fault → IsFirstAt number before readings fault
fault_all_back season number before [] [] fault are has = has
fault_all_back season number before [] (r ∷ readings) fault are has = absurd are
fault_all_back season number before (line ∷ lines) [] fault are has = absurd are
fault_all_back season number before (line ∷ lines) (r ∷ readings) fault are (inl here) = inl (fault_back season number line r before (rows_read readings) fault are.0 here)
fault_all_back season number before (line ∷ lines) (r ∷ readings) fault are (inr later) =
    inr (good_back season line r before (rows_read readings) are.0 later.0, fault_all_back season (number + 1) (row_read r ∷ before) lines readings fault are.1 later.1)

-- ---- one fault or none

good_no_fault : (number : ℕ) (reading : Reading) (before after : List (Option Row)) (fault : ScrFault) → IsGoodReading reading before after → HasFaultAt number reading before after fault → ⊥
good_no_fault number Remark before after fault good has = has
good_no_fault number LongRemark before after fault good has = good
good_no_fault number OverLong before after fault good has = good
good_no_fault number (Bad field) before after fault good has = good
good_no_fault number (Entry value) before after fault good has = has.0 good
good_no_fault number (Question flight) before after fault good has = has

fault_at_once : (number : ℕ) (reading : Reading) (before after : List (Option Row)) (f g : ScrFault) → HasFaultAt number reading before after f → HasFaultAt number reading before after g → f ≡ g
fault_at_once number Remark before after f g a b = absurd a
fault_at_once number LongRemark before after f g a b = a ∙ sym b
fault_at_once number OverLong before after f g a b = a ∙ sym b
fault_at_once number (Bad field) before after f g a b = a ∙ sym b
fault_at_once number (Entry value) before after f g a b = a.1 ∙ sym b.1
fault_at_once number (Question flight) before after f g a b = absurd a

pub good_or_fault : (number : ℕ) (before : List (Option Row)) (readings : List Reading) (f : ScrFault) → AreGoodReadings before readings → IsFirstAt number before readings f → ⊥
good_or_fault number before [] f good has = has
good_or_fault number before (r ∷ readings) f good (inl here) = good_no_fault number r before (rows_read readings) f good.0 here
good_or_fault number before (r ∷ readings) f good (inr later) = good_or_fault (number + 1) (row_read r ∷ before) readings f good.1 later.1

pub first_once : (number : ℕ) (before : List (Option Row)) (readings : List Reading) (f g : ScrFault) → IsFirstAt number before readings f → IsFirstAt number before readings g → f ≡ g
first_once number before [] f g a b = absurd a
first_once number before (r ∷ readings) f g (inl a) (inl b) = fault_at_once number r before (rows_read readings) f g a b
first_once number before (r ∷ readings) f g (inl a) (inr b) = absurd (good_no_fault number r before (rows_read readings) f b.0 a)
first_once number before (r ∷ readings) f g (inr a) (inl b) = absurd (good_no_fault number r before (rows_read readings) g a.0 b)
first_once number before (r ∷ readings) f g (inr a) (inr b) = first_once (number + 1) (row_read r ∷ before) readings f g a.1 b.1
