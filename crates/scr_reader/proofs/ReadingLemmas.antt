-- What a line is by itself, from what its fields are.
use Rattle.std.proofs.Common.{◌≡◌, ℕ, ◌<◌, ◌≤◌, true, false, List, take, Some, refl, sym, ap, ◌∙◌, inl, inr, length, arith}
use Rattle.std.proofs.lemmas.Bool.{both_ways}
use Rattle.season_days.specs.Term.{Term}
use Rattle.slot_text.specs.declared.lines.TheConstants.{LONGEST_LINE}
use Rattle.scr_reader.specs.declared.line.Line.{Line}
use Rattle.scr_reader.specs.declared.line.Flight.{Flight}
use Rattle.scr_reader.specs.Shapes.{IsLine, IsFaultyField}
use Rattle.scr_reader.specs.Rows.{Row, remark, entry, question, is_remark, is_question, line_fields, IsRow, IsQuestion, IsFaultyQuestion}
use Rattle.scr_reader.specs.Private.Readings.{IsRowReading, row_read}
use Rattle.scr_reader.specs.declared.rows.Reading.TheVariants.{Remark, LongRemark, TooLong, Bad, Entry, Question}
use Rattle.scr_reader.proofs.NineLemmas.{line_whole, line_cut, faulty_whole, same_asks, question_whole, question_cut, faulty_question_whole, faulty_no_line, faulty_no_question}

only_entry : (season : Term) (line : List ℕ) (value : Line) → is_remark line ≡ false → is_question (line_fields line) ≡ false → ((other : Line) → IsLine season (line_fields line) other → value ≡ other) → (row : Row) → IsRow season line row → row_read (Entry value) ≡ Some row
only_entry season line value fields asked same remark is = absurd (both_ways (is_remark line) fields is)
only_entry season line value fields asked same (entry other) is = ap (λ (l : Line). Some (entry l)) (same other is.1)
only_entry season line value fields asked same (question flight) is = absurd (both_ways (is_question (line_fields line)) asked is.0.kind)

pub entry_reading : (season : Term) (line : List ℕ) (value : Line) → is_remark line ≡ false → length line ≤ LONGEST_LINE → is_question (take 9 (line_fields line)) ≡ false → IsLine season (take 9 (line_fields line)) value
    → ((other : Line) → IsLine season (take 9 (line_fields line)) other → value ≡ other) → IsRowReading season line (Entry value)
entry_reading season line value fields short asks is same =
    let asked : is_question (line_fields line) ≡ false = sym (same_asks (line_fields line)) ∙ asks in
    let only : (row : Row) → IsRow season line row → row_read (Entry value) ≡ Some row = only_entry season line value fields asked (λ other whole. same other (line_cut season (line_fields line) other whole)) in
    record {
      row = (record { read = fields; short = short; kind = asked }, line_whole season (line_fields line) value is);
      only = only;
      own = short;
    }

only_question : (season : Term) (line : List ℕ) (flight : Flight) → is_remark line ≡ false → is_question (line_fields line) ≡ true → ((other : Flight) → IsQuestion (line_fields line) other → flight ≡ other) → (row : Row) → IsRow season line row → row_read (Question flight) ≡ Some row
only_question season line flight fields asked same remark is = absurd (both_ways (is_remark line) fields is)
only_question season line flight fields asked same (entry other) is = absurd (both_ways (is_question (line_fields line)) is.0.kind asked)
only_question season line flight fields asked same (question other) is = ap (λ (f : Flight). Some (question f)) (same other is.1)

pub question_reading : (season : Term) (line : List ℕ) (flight : Flight) → is_remark line ≡ false → length line ≤ LONGEST_LINE → is_question (take 9 (line_fields line)) ≡ true → IsQuestion (take 9 (line_fields line)) flight
    → ((other : Flight) → IsQuestion (take 9 (line_fields line)) other → flight ≡ other) → IsRowReading season line (Question flight)
question_reading season line flight fields short asks is same =
    let asked : is_question (line_fields line) ≡ true = sym (same_asks (line_fields line)) ∙ asks in
    record {
      row = (record { read = fields; short = short; kind = asked }, question_whole (line_fields line) flight is);
      only = only_question season line flight fields asked (λ other whole. same other (question_cut (line_fields line) other whole));
      own = short;
    }

no_row_line : (season : Term) (line : List ℕ) (k : ℕ) → is_remark line ≡ false → is_question (line_fields line) ≡ false → IsFaultyField season (line_fields line) k → (row : Row) → IsRow season line row → ⊥
no_row_line season line k fields asked faulty remark is = both_ways (is_remark line) fields is
no_row_line season line k fields asked faulty (entry other) is = faulty_no_line season (line_fields line) k other faulty is.1
no_row_line season line k fields asked faulty (question flight) is = both_ways (is_question (line_fields line)) asked is.0.kind

pub bad_line_reading : (season : Term) (line : List ℕ) (k : ℕ) → is_remark line ≡ false → length line ≤ LONGEST_LINE → is_question (take 9 (line_fields line)) ≡ false → IsFaultyField season (take 9 (line_fields line)) k → IsRowReading season line (Bad k)
bad_line_reading season line k fields short asks faulty =
    let asked : is_question (line_fields line) ≡ false = sym (same_asks (line_fields line)) ∙ asks in
    let whole = faulty_whole season (line_fields line) k faulty in
    let none = no_row_line season line k fields asked whole in
    record { row = none; only = λ row is. absurd (none row is); own = inl (record { read = fields; short = short; kind = asked }, whole) }

no_row_question : (season : Term) (line : List ℕ) (k : ℕ) → is_remark line ≡ false → is_question (line_fields line) ≡ true → IsFaultyQuestion (line_fields line) k → (row : Row) → IsRow season line row → ⊥
no_row_question season line k fields asked faulty remark is = both_ways (is_remark line) fields is
no_row_question season line k fields asked faulty (entry other) is = both_ways (is_question (line_fields line)) is.0.kind asked
no_row_question season line k fields asked faulty (question flight) is = faulty_no_question (line_fields line) k flight faulty is.1

pub bad_question_reading : (season : Term) (line : List ℕ) (k : ℕ) → is_remark line ≡ false → length line ≤ LONGEST_LINE → is_question (take 9 (line_fields line)) ≡ true → IsFaultyQuestion (take 9 (line_fields line)) k → IsRowReading season line (Bad k)
bad_question_reading season line k fields short asks faulty =
    let asked : is_question (line_fields line) ≡ true = sym (same_asks (line_fields line)) ∙ asks in
    let whole = faulty_question_whole (line_fields line) k faulty in
    let none = no_row_question season line k fields asked whole in
    record { row = none; only = λ row is. absurd (none row is); own = inr (record { read = fields; short = short; kind = asked }, whole) }

-- ---- remarks, and lines that are too long

only_remark : (season : Term) (line : List ℕ) → is_remark line ≡ true → (row : Row) → IsRow season line row → Some remark ≡ Some row
only_remark season line is remark row = refl
only_remark season line is (entry other) row = absurd (both_ways (is_remark line) row.0.read is)
only_remark season line is (question flight) row = absurd (both_ways (is_remark line) row.0.read is)

pub remark_reading : (season : Term) (line : List ℕ) → is_remark line ≡ true → length line ≤ LONGEST_LINE → IsRowReading season line Remark
remark_reading season line is short = record { row = is; only = only_remark season line is; own = short }

pub long_remark_reading : (season : Term) (line : List ℕ) → is_remark line ≡ true → LONGEST_LINE < length line → IsRowReading season line LongRemark
long_remark_reading season line is long = record { row = is; only = only_remark season line is; own = long }

no_row_long : (season : Term) (line : List ℕ) → is_remark line ≡ false → LONGEST_LINE < length line → (row : Row) → IsRow season line row → ⊥
no_row_long season line fields long remark is = both_ways (is_remark line) fields is
no_row_long season line fields long (entry other) is = omega (arith, is.0.short, long)
no_row_long season line fields long (question flight) is = omega (arith, is.0.short, long)

pub too_long_reading : (season : Term) (line : List ℕ) → is_remark line ≡ false → LONGEST_LINE < length line → IsRowReading season line TooLong
too_long_reading season line fields long =
    let none = no_row_long season line fields long in
    record { row = none; only = λ row is. absurd (none row is); own = long }
