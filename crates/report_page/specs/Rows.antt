-- The rows of a page: which template each line of a report fills.
use Rattle.std.specs.Prelude.{ℕ, nat_lt, Bool, not, ◌&&◌, if◌then◌else◌, List, [], ◌∷◌, ◌++◌, codes}
use Rattle.slot_text.specs.Fields.{fields_of}
use Rattle.report_page.specs.Filled.{word_at, word_is, number_of, filled}
use Rattle.report_page.specs.declared.layout.Section.{Section}
use Rattle.report_page.specs.declared.layout.Section.TheVariants.{Title, Step, Heading, Stages, Airlines, Night}
use Rattle.report_page.specs.declared.layout.TheConstants.{TITLE, STEP, HEADING, RULES, STAGE, OVER, AIRLINE, NIGHT, NIGHT_LOAD}
use Rattle.report_page.specs.declared.layout.TheConstants.{CAPTION, PEAK, NO_PEAK, FRAME, GRID, BAR, BAR_TITLE, HOURS}
use Rattle.report_page.specs.declared.layout.TheConstants.{UNIT, HELD, ASKED, GIVEN, NOT, FITS}

-- ---- parts with one row for each line of their kinds

-- a template, where a line is shown by it
abbrev pub where_shown : Bool → List ℕ → List ℕ
where_shown shown template = if shown then template else []

-- a PROFILE line of the capacity line with this number, or of the night quota
abbrev pub is_profile : List ℕ → List (List ℕ) → Bool
is_profile number words = word_is 1 (codes "PROFILE") words && word_is 2 number words

-- the template of a line by its words; none where the part does not show it
abbrev pub row_of : Section → List (List ℕ) → List ℕ
row_of Title words = where_shown (word_is 1 (codes "AIRPORT") words) TITLE.now
row_of Step words = where_shown (word_is 1 (codes "RULES") words) STEP.now
row_of Heading words =
    if word_is 1 (codes "AIRPORT") words then HEADING.now
    else where_shown (word_is 1 (codes "RULES") words) RULES.now
row_of Stages words =
    if word_is 1 (codes "STAGE") words then STAGE.now
    else where_shown (word_is 1 (codes "OVER") words) OVER.now
row_of Airlines words = where_shown (word_is 1 (codes "AIRLINE") words) AIRLINE.now
row_of Night words =
    if word_is 1 (codes "NIGHT") words then NIGHT.now
    else where_shown (is_profile (codes "NIGHT") words) NIGHT_LOAD.now

abbrev pub section_rows : Section → List (List ℕ) → List ℕ
section_rows section [] = []
section_rows section (line ∷ lines) =
    filled (row_of section (fields_of line)) (fields_of line) ++ section_rows section lines

-- ---- the series with another outcome than KEPT

-- a UNIT line decides for itself and the lines below it
abbrev pub is_told : Bool → List (List ℕ) → Bool
is_told told words =
    if word_is 1 (codes "UNIT") words then not (word_is 5 (codes "KEPT") words) else told

abbrev pub unit_row : List (List ℕ) → List ℕ
unit_row words =
    if word_is 1 (codes "UNIT") words then UNIT.now
    else (if word_is 1 (codes "HELD") words then HELD.now
    else (if word_is 1 (codes "ASKED") words then ASKED.now
    else (if word_is 1 (codes "GIVEN") words then GIVEN.now
    else (if word_is 1 (codes "NOT") words then NOT.now
    else (if word_is 1 (codes "FITS") words then FITS.now else [])))))

abbrev pub told_row : Bool → List (List ℕ) → List ℕ
told_row told words = if told then unit_row words else []

abbrev pub series_rows : Bool → List (List ℕ) → List ℕ
series_rows told [] = []
series_rows told (line ∷ lines) =
    filled (told_row (is_told told (fields_of line)) (fields_of line)) (fields_of line)
    ++ series_rows (is_told told (fields_of line)) lines

-- ---- the pictures of the capacity lines

abbrev pub told_load : List (List ℕ) → ℕ
told_load words = number_of (word_at 5 words)

-- the first line with the greatest load
abbrev pub higher : List ℕ → List ℕ → List ℕ → List ℕ
higher number best line =
    if is_profile number (fields_of line) && nat_lt (told_load (fields_of best)) (told_load (fields_of line))
    then line else best

abbrev pub peak_from : List ℕ → List ℕ → List (List ℕ) → List ℕ
peak_from number best [] = best
peak_from number best (line ∷ lines) = peak_from number (higher number best line) lines

abbrev pub peak_row : List (List ℕ) → List ℕ
peak_row words = if word_is 1 (codes "PROFILE") words then PEAK.now else NO_PEAK.now

abbrev pub peak_part : List (List ℕ) → List ℕ
peak_part words = filled (peak_row words) words

-- a bar for each start
abbrev pub bar : List ℕ → List (List ℕ) → List ℕ
bar number words =
    if is_profile number words then filled BAR.now words ++ filled BAR_TITLE.now words else []

abbrev pub bars : List ℕ → List (List ℕ) → List ℕ
bars number [] = []
bars number (line ∷ lines) = bar number (fields_of line) ++ bars number lines

-- the caption with the greatest load, and the bars in their frame
abbrev pub picture : List (List ℕ) → List (List ℕ) → List ℕ
picture lines words =
    filled CAPTION.now words
    ++ (peak_part (fields_of (peak_from (word_at 2 words) [] lines))
    ++ (filled FRAME.now words
    ++ (filled GRID.now words
    ++ (bars (word_at 2 words) lines ++ HOURS.now))))

abbrev pub chart : List (List ℕ) → List (List ℕ) → List ℕ
chart lines words = if word_is 1 (codes "CAPACITY") words then picture lines words else []

-- for each of some lines, over all lines of the report
abbrev pub charts : List (List ℕ) → List (List ℕ) → List ℕ
charts all [] = []
charts all (line ∷ lines) = chart all (fields_of line) ++ charts all lines
