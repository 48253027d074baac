-- The page of a report.
use Rattle.std.specs.Prelude.{ℕ, false, List, ◌++◌}
use Rattle.slot_text.specs.Lines.{lines_of}
use Rattle.report_page.specs.Rows.{section_rows, charts, series_rows}
use Rattle.report_page.specs.declared.layout.Section.TheVariants.{Title, Step, Heading, Stages, Airlines, Night}
use Rattle.report_page.specs.declared.layout.TheConstants.{OPENING, STYLE, BODY, STAGES, AIRLINES, CAPACITY, PICTURES, SERIES, CLOSING}

-- the title, the style, and the heading
abbrev pub head_part : List (List ℕ) → List ℕ
head_part lines =
    OPENING.now ++ (section_rows Title lines
    ++ (STYLE.now ++ (section_rows Step lines
    ++ (BODY.now ++ section_rows Heading lines))))

-- the tables of the stages and of the airlines
abbrev pub table_part : List (List ℕ) → List ℕ
table_part lines =
    STAGES.now ++ (section_rows Stages lines
    ++ (AIRLINES.now ++ section_rows Airlines lines))

-- the pictures of the capacity lines, and the series with their reasons
abbrev pub last_part : List (List ℕ) → List ℕ
last_part lines =
    CAPACITY.now ++ (section_rows Night lines
    ++ (PICTURES.now ++ (charts lines lines
    ++ (SERIES.now ++ (series_rows false lines ++ CLOSING.now)))))

abbrev pub page_of : List (List ℕ) → List ℕ
page_of lines = head_part lines ++ (table_part lines ++ last_part lines)

abbrev pub page_text : List ℕ → List ℕ
page_text report = page_of (lines_of report)
