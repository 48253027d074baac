-- No page has a script: each of its parts is a template whose markup is safe.
use Rattle.std.specs.Prelude.{if◌then◌else◌}
use Rattle.std.proofs.Common.{◌≡◌, ℕ, Bool, true, false, List, [], ◌∷◌, ◌++◌, refl, codes}
use Rattle.slot_text.specs.Lines.{lines_of}
use Rattle.slot_text.specs.Fields.{fields_of}
use Rattle.report_page.specs.Filled.{word_at, word_is, filled}
use Rattle.report_page.specs.Rows.{row_of, section_rows, is_told, unit_row, told_row, series_rows, is_profile, peak_from, peak_row, peak_part, bar, bars, picture, chart, charts}
use Rattle.report_page.specs.Pages.{head_part, table_part, last_part, page_text}
use Rattle.report_page.specs.declared.layout.Section.{Section}
use Rattle.report_page.specs.declared.layout.Section.TheVariants.{Title, Step, Heading, Stages, Airlines, Night}
use Rattle.report_page.specs.declared.layout.TheConstants.{OPENING, STYLE, BODY, STAGES, AIRLINES, CAPACITY, PICTURES, SERIES, CLOSING}
use Rattle.report_page.specs.declared.layout.TheConstants.{TITLE, STEP, HEADING, RULES, STAGE, OVER, AIRLINE, NIGHT, NIGHT_LOAD}
use Rattle.report_page.specs.declared.layout.TheConstants.{CAPTION, PEAK, NO_PEAK, FRAME, GRID, BAR, BAR_TITLE, HOURS}
use Rattle.report_page.specs.declared.layout.TheConstants.{UNIT, HELD, ASKED, GIVEN, NOT, FITS}
use Rattle.report_page.proofs.MarkupLemmas.{is_safe, IsSafe, safe_by_test, safe_append, filled_safe}

-- ---- one of two

either_test : (b : Bool) (x y : List ℕ) → is_safe x ≡ true → is_safe y ≡ true → is_safe (if b then x else y) ≡ true
either_test b x y h k = elim b as (λ v. is_safe (if v then x else y) ≡ true) [ true ↦ h | false ↦ k ]

either_safe : (b : Bool) (x y : List ℕ) → IsSafe x → IsSafe y → IsSafe (if b then x else y)
either_safe b x y h k = elim b as (λ v. IsSafe (if v then x else y)) [ true ↦ h | false ↦ k ]

-- ---- parts with one row for each line of their kinds

row_safe : (section : Section) (words : List (List ℕ)) → is_safe (row_of section words) ≡ true
row_safe Title words = either_test (word_is 1 (codes "AIRPORT") words) TITLE.now [] refl refl
row_safe Step words = either_test (word_is 1 (codes "RULES") words) STEP.now [] refl refl
row_safe Heading words =
    either_test (word_is 1 (codes "AIRPORT") words) HEADING.now _ refl
    (either_test (word_is 1 (codes "RULES") words) RULES.now [] refl refl)
row_safe Stages words =
    either_test (word_is 1 (codes "STAGE") words) STAGE.now _ refl
    (either_test (word_is 1 (codes "OVER") words) OVER.now [] refl refl)
row_safe Airlines words = either_test (word_is 1 (codes "AIRLINE") words) AIRLINE.now [] refl refl
row_safe Night words =
    either_test (word_is 1 (codes "NIGHT") words) NIGHT.now _ refl
    (either_test (is_profile (codes "NIGHT") words) NIGHT_LOAD.now [] refl refl)

section_safe : (section : Section) (lines : List (List ℕ)) → IsSafe (section_rows section lines)
section_safe section [] = tt
section_safe section (line ∷ lines) =
    safe_append (filled (row_of section (fields_of line)) (fields_of line)) (section_rows section lines)
    (filled_safe (row_of section (fields_of line)) (fields_of line) (row_safe section (fields_of line)))
    (section_safe section lines)

-- ---- the series

unit_safe : (words : List (List ℕ)) → is_safe (unit_row words) ≡ true
unit_safe words =
    either_test (word_is 1 (codes "UNIT") words) UNIT.now _ refl
    (either_test (word_is 1 (codes "HELD") words) HELD.now _ refl
    (either_test (word_is 1 (codes "ASKED") words) ASKED.now _ refl
    (either_test (word_is 1 (codes "GIVEN") words) GIVEN.now _ refl
    (either_test (word_is 1 (codes "NOT") words) NOT.now _ refl
    (either_test (word_is 1 (codes "FITS") words) FITS.now [] refl refl)))))

series_safe : (told : Bool) (lines : List (List ℕ)) → IsSafe (series_rows told lines)
series_safe told [] = tt
series_safe told (line ∷ lines) =
    let words = fields_of line in
    let now = is_told told words in
    safe_append (filled (told_row now words) words) (series_rows now lines)
    (filled_safe (told_row now words) words (either_test now (unit_row words) [] (unit_safe words) refl))
    (series_safe now lines)

-- ---- the pictures

bar_safe : (number : List ℕ) (words : List (List ℕ)) → IsSafe (bar number words)
bar_safe number words =
    either_safe (is_profile number words) (filled BAR.now words ++ filled BAR_TITLE.now words) []
    (safe_append (filled BAR.now words) (filled BAR_TITLE.now words) (filled_safe BAR.now words refl) (filled_safe BAR_TITLE.now words refl)) tt

bars_safe : (number : List ℕ) (lines : List (List ℕ)) → IsSafe (bars number lines)
bars_safe number [] = tt
bars_safe number (line ∷ lines) =
    safe_append (bar number (fields_of line)) (bars number lines) (bar_safe number (fields_of line)) (bars_safe number lines)

peak_safe : (words : List (List ℕ)) → IsSafe (peak_part words)
peak_safe words =
    filled_safe (peak_row words) words (either_test (word_is 1 (codes "PROFILE") words) PEAK.now NO_PEAK.now refl refl)

picture_safe : (lines : List (List ℕ)) (words : List (List ℕ)) → IsSafe (picture lines words)
picture_safe lines words =
    let number = word_at 2 words in
    safe_append (filled CAPTION.now words) _ (filled_safe CAPTION.now words refl)
    (safe_append (peak_part (fields_of (peak_from number [] lines))) _ (peak_safe (fields_of (peak_from number [] lines)))
    (safe_append (filled FRAME.now words) _ (filled_safe FRAME.now words refl)
    (safe_append (filled GRID.now words) _ (filled_safe GRID.now words refl)
    (safe_append (bars number lines) HOURS.now (bars_safe number lines) (safe_by_test HOURS.now refl)))))

charts_safe : (all lines : List (List ℕ)) → IsSafe (charts all lines)
charts_safe all [] = tt
charts_safe all (line ∷ lines) =
    let words = fields_of line in
    safe_append (chart all words) (charts all lines)
    (either_safe (word_is 1 (codes "CAPACITY") words) (picture all words) [] (picture_safe all words) tt)
    (charts_safe all lines)

-- ---- the page

head_safe : (lines : List (List ℕ)) → IsSafe (head_part lines)
head_safe lines =
    safe_append OPENING.now _ (safe_by_test OPENING.now refl)
    (safe_append (section_rows Title lines) _ (section_safe Title lines)
    (safe_append STYLE.now _ (safe_by_test STYLE.now refl)
    (safe_append (section_rows Step lines) _ (section_safe Step lines)
    (safe_append BODY.now _ (safe_by_test BODY.now refl) (section_safe Heading lines)))))

table_safe : (lines : List (List ℕ)) → IsSafe (table_part lines)
table_safe lines =
    safe_append STAGES.now _ (safe_by_test STAGES.now refl)
    (safe_append (section_rows Stages lines) _ (section_safe Stages lines)
    (safe_append AIRLINES.now _ (safe_by_test AIRLINES.now refl) (section_safe Airlines lines)))

last_safe : (lines : List (List ℕ)) → IsSafe (last_part lines)
last_safe lines =
    safe_append CAPACITY.now _ (safe_by_test CAPACITY.now refl)
    (safe_append (section_rows Night lines) _ (section_safe Night lines)
    (safe_append PICTURES.now _ (safe_by_test PICTURES.now refl)
    (safe_append (charts lines lines) _ (charts_safe lines lines)
    (safe_append SERIES.now _ (safe_by_test SERIES.now refl)
    (safe_append (series_rows false lines) CLOSING.now (series_safe false lines) (safe_by_test CLOSING.now refl))))))

pub page_safe : (report : List ℕ) → IsSafe (page_text report)
page_safe report =
    let lines = lines_of report in
    safe_append (head_part lines) _ (head_safe lines) (safe_append (table_part lines) (last_part lines) (table_safe lines) (last_safe lines))
