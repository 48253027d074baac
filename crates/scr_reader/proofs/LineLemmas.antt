-- A printed line is one line of a text.
use Rattle.std.proofs.Common.{◌≡◌, ℕ, ◌≤◌, false, eqb, List, [], ◌∷◌, ◌++◌, Some, None, ap, arith, refl}
use Rattle.schedule_text.specs.Days.{days_text}
use Rattle.std.specs.Prelude.{Option}
use Rattle.std.proofs.lemmas.Bool.{ne_eqb}
use Rattle.slot_text.specs.Lines.{onto_first, lines_of}
use Rattle.season_days.specs.Term.{Term}
use Rattle.slot_text.specs.Fields.{is_blank_line}
use Rattle.scr_reader.specs.declared.line.Code.{Code}
use Rattle.scr_reader.specs.declared.line.Line.{Line}
use Rattle.scr_reader.specs.declared.line.Stop.{Stop}
use Rattle.scr_reader.specs.Bytes.{three_digits}
use Rattle.scr_reader.specs.Parts.{ThreeLettersOrDigits}
use Rattle.scr_reader.specs.Printed.{code_letter, dates_text, fields_by, joined, line_text, StopsFit, LineFits}
use Rattle.scr_reader.proofs.TrimLemmas.{not_blank}
use Rattle.scr_reader.proofs.CleanLemmas.{Clean, clean_one, clean_flight, clean_dates, clean_days, clean_seats, clean_group}
use Rattle.scr_reader.proofs.PrintLemmas.{code_above, code_clean, going_clean}

-- no byte below a blank
abbrev Plain : List ℕ → Type 0
Plain [] = Unit {0}
Plain (b ∷ text) = (32 ≤ b) × Plain text

plain_append : (a b : List ℕ) → Plain a → Plain b → Plain (a ++ b)
plain_append [] b x y = y
plain_append (c ∷ a) b x y = (x.0, plain_append a b x.1 y)

plain_field : (text : List ℕ) → Clean text → Plain text
plain_field [] x = tt
plain_field (b ∷ text) x = (omega (arith, x.0), plain_field text x.1)

one_line : (line rest : List ℕ) → Plain line → lines_of (line ++ 10 ∷ rest) ≡ line ∷ lines_of rest
unfolding lines_of
one_line [] rest x = refl
one_line (b ∷ line) rest x =
    let no_lf : eqb b 10 ≡ false = ne_eqb b 10 (λ h. omega (arith, h, x.0)) in
    let no_cr : eqb b 13 ≡ false = ne_eqb b 13 (λ h. omega (arith, h, x.0)) in
    rw (no_lf, no_cr) (ap (onto_first b) (one_line line rest x.1))

abbrev AllClean : List (List ℕ) → Type 0
AllClean [] = Unit {0}
AllClean (text ∷ texts) = Clean text × AllClean texts

plain_joined : (fields : List (List ℕ)) → AllClean fields → Plain (joined fields)
plain_joined [] x = tt
plain_joined (text ∷ []) x = plain_field text x.0
plain_joined (text ∷ next ∷ fields) x = plain_append text (32 ∷ joined (next ∷ fields)) (plain_field text x.0) (omega arith, plain_joined (next ∷ fields) x.1)

abbrev fields_with : Term → Code → Line → Option Stop → Option Stop → List (List ℕ)
fields_with season code line a d = fields_by (code_letter code) line (dates_text season line.period) (days_text line.period.days) (three_digits line.seats ++ line.craft.0) a d

clean_fields : (season : Term) (code : Code) (line : Line) (a d : Option Stop) → StopsFit line a d → ThreeLettersOrDigits line.craft.0 → AllClean (fields_with season code line a d)
clean_fields season code line None None fits craft = absurd fits
clean_fields season code line (Some coming) None fits craft =
    (code_clean code coming.flight fits.0.flight, (clean_dates season line.period.first.0 line.period.last.0, (clean_days line.period.days, (clean_seats line.seats line.craft.0 craft, (clean_group coming.near coming.far coming.minute fits.0.stations, (clean_one coming.service fits.0.service, tt))))))
clean_fields season code line None (Some going) fits craft =
    ((code_above code, tt), (clean_flight going.flight fits.0.flight, (clean_dates season line.period.first.0 line.period.last.0, (clean_days line.period.days, (clean_seats line.seats line.craft.0 craft, (going_clean going 0 fits.0, (clean_one going.service fits.0.service, tt)))))))
clean_fields season code line (Some coming) (Some going) fits craft = (
  code_clean code coming.flight fits.0.flight,
  (
    clean_flight going.flight fits.1.flight,
    (
      clean_dates season line.period.first.0 line.period.last.0,
      (
        clean_days line.period.days,
        (
          clean_seats line.seats line.craft.0 craft,
          (
            clean_group coming.near coming.far coming.minute fits.0.stations,
            (going_clean going line.nights fits.1, (((clean_one coming.service fits.0.service).0, clean_one going.service fits.1.service), tt)),
          ),
        ),
      ),
    ),
  ),
)

pub printed_line : (season : Term) (code : Code) (line : Line) (rest : List ℕ) → LineFits season line → lines_of (line_text season code line ++ 10 ∷ rest) ≡ line_text season code line ∷ lines_of rest
printed_line season code line rest fits =
    one_line (line_text season code line) rest (plain_joined (fields_with season code line line.arrival line.departure) (clean_fields season code line line.arrival line.departure fits.stops fits.craft))

full_first : (b : ℕ) (line : List ℕ) → 33 ≤ b → is_blank_line (b ∷ line) ≡ false
unfolding is_blank_line
full_first b line above = rw (not_blank b (λ e. omega (arith, above, e)) (λ e. omega (arith, above, e))) refl

full_fields : (season : Term) (code : Code) (line : Line) (a d : Option Stop) → StopsFit line a d → is_blank_line (joined (fields_with season code line a d)) ≡ false
full_fields season code line None None fits = absurd fits
full_fields season code line (Some coming) None fits = full_first (code_letter code) _ (code_above code)
full_fields season code line None (Some going) fits = full_first (code_letter code) _ (code_above code)
full_fields season code line (Some coming) (Some going) fits = full_first (code_letter code) _ (code_above code)

pub printed_full : (season : Term) (code : Code) (line : Line) → LineFits season line → is_blank_line (line_text season code line) ≡ false
printed_full season code line fits = full_fields season code line line.arrival line.departure fits.stops

-- one line of a text, and not an empty one
abbrev pub IsFullLine : List ℕ → Type 0
IsFullLine line = ((rest : List ℕ) → lines_of (line ++ 10 ∷ rest) ≡ line ∷ lines_of rest) × (is_blank_line line ≡ false)

pub full_line : (season : Term) (code : Code) (line : Line) → LineFits season line → IsFullLine (line_text season code line)
full_line season code line fits = ((λ rest. printed_line season code line rest fits), printed_full season code line fits)

pub clean_is_line : (b : ℕ) (text : List ℕ) → Clean (b ∷ text) → IsFullLine (b ∷ text)
clean_is_line b text clean = ((λ rest. one_line (b ∷ text) rest (plain_field (b ∷ text) clean)), full_first b text clean.0)
