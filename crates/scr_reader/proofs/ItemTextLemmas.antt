-- How long a printed item is, and how it begins.
use Rattle.std.proofs.Common.{◌≡◌, ℕ, ◌+◌, ◌≤◌, true, List, [], ◌∷◌, ◌++◌, length, length-append, drop, Some, None, refl, ap, arith}
use Rattle.std.specs.Prelude.{Option}
use Rattle.schedule_text.specs.Days.{days_text}
use Rattle.season_days.specs.Term.{Term}
use Rattle.scr_reader.specs.Bytes.{is_letter, three_digits}
use Rattle.scr_reader.specs.Printed.{code_letter, flight_text, dates_text, fields_by, joined, line_text, item_text, StopsFit, LineFits, ItemFits}
use Rattle.scr_reader.specs.declared.line.Line.{Line}
use Rattle.scr_reader.specs.declared.line.Stop.{Stop}
use Rattle.scr_reader.specs.declared.line.Code.{Code}
use Rattle.scr_reader.specs.declared.line.Code.TheVariants.{N, B, F, C, R, L, D, A, Z, K, H, O, U, W, X}
use Rattle.scr_reader.specs.declared.line.Item.{Item}
use Rattle.scr_reader.specs.declared.line.Item.TheVariants.{One, Pair, Query}
use Rattle.scr_reader.proofs.LengthLemmas.{printed_short, flight_few}

-- ---- length

line_few : (season : Term) (line : Line) (rest : List ℕ) → LineFits season line → length (line_text season line.code line ++ 10 ∷ rest) ≤ 71 + length rest
line_few season line rest fits = omega (arith, length-append (line_text season line.code line) (10 ∷ rest), printed_short season line.code line fits)

pub item_few : (season : Term) (item : Item) → ItemFits season item → length (item_text season item) ≤ 142
item_few season (One line) fits = omega (arith, line_few season line [] fits)
item_few season (Pair changed asked) fits =
    omega (arith, line_few season changed (line_text season asked.code asked ++ 10 ∷ []) fits.0, line_few season asked [] fits.1)
item_few season (Query flight) fits = omega (arith, length-append (flight_text flight) (10 ∷ []), flight_few flight fits)

-- ---- the first byte

code_is_letter : (code : Code) → is_letter (code_letter code) ≡ true
code_is_letter N = refl
code_is_letter B = refl
code_is_letter F = refl
code_is_letter C = refl
code_is_letter R = refl
code_is_letter L = refl
code_is_letter D = refl
code_is_letter A = refl
code_is_letter Z = refl
code_is_letter K = refl
code_is_letter H = refl
code_is_letter O = refl
code_is_letter U = refl
code_is_letter W = refl
code_is_letter X = refl

abbrev fields_text : Term → Code → Line → Option Stop → Option Stop → List ℕ
fields_text season code line a d =
    joined (fields_by (code_letter code) line (dates_text season line.period) (days_text line.period.days) (three_digits line.seats ++ line.craft.0) a d)

fields_begin : (season : Term) (code : Code) (line : Line) (a d : Option Stop) → StopsFit line a d → fields_text season code line a d ≡ code_letter code ∷ drop 1 (fields_text season code line a d)
fields_begin season code line None None fits = absurd fits
fields_begin season code line (Some coming) None fits = refl
fields_begin season code line None (Some going) fits = refl
fields_begin season code line (Some coming) (Some going) fits = refl

line_begins : (season : Term) (line : Line) (rest : List ℕ) → LineFits season line
    → line_text season line.code line ++ 10 ∷ rest ≡ code_letter line.code ∷ (drop 1 (line_text season line.code line) ++ 10 ∷ rest)
line_begins season line rest fits = ap (λ (t : List ℕ). t ++ 10 ∷ rest) (fields_begin season line.code line line.arrival line.departure fits.stops)

pub item_begins : (season : Term) (item : Item) → ItemFits season item → (b : ℕ) × (rest : List ℕ) × (item_text season item ≡ b ∷ rest) × (is_letter b ≡ true)
item_begins season (One line) fits = (code_letter line.code, drop 1 (line_text season line.code line) ++ 10 ∷ [], line_begins season line [] fits, code_is_letter line.code)
item_begins season (Pair changed asked) fits =
    let second = line_text season asked.code asked ++ 10 ∷ [] in
    (code_letter changed.code, drop 1 (line_text season changed.code changed) ++ 10 ∷ second, line_begins season changed second fits.0, code_is_letter changed.code)
item_begins season (Query flight) fits = (81, flight_text flight ++ 10 ∷ [], refl, refl)
