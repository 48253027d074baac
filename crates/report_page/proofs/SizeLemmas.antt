-- How long a page may be.
use Rattle.std.specs.Prelude.{if◌then◌else◌, nat_le, nat_lt}
use Rattle.std.proofs.Common.{◌≡◌, ℕ, ◌+◌, ◌*◌, ◌^◌, ◌<◌, ◌≤◌, Bool, true, false, ◌&&◌, eqb, List, [], ◌∷◌, ◌++◌, length, refl, arith, inl, inr, codes, length-append, add-mul, one-mul}
use Rattle.std.specs.Fmt.{decimal}
use Rattle.std.proofs.lemmas.Bool.{cases_Bool, leb-true}
use Rattle.std.proofs.lemmas.Fmt.{length-decimal-le}
use Rattle.slot_text.specs.Lines.{lines_of}
use Rattle.slot_text.specs.Fields.{fields_of}
use Rattle.report_page.specs.Filled.{shown_byte, escaped, number_of, minute_of, word_at, word_is, word_piece, next_piece, after_next, is_stop, told_words, after_told, is_word_mark, piece, words_left, filled}
use Rattle.report_page.specs.Rows.{row_of, section_rows, is_told, unit_row, told_row, series_rows, is_profile, told_load, higher, peak_from, peak_row, peak_part, bar, bars, picture, chart, charts}
use Rattle.report_page.specs.Pages.{head_part, table_part, last_part, page_text}
use Rattle.report_page.specs.Laws.{MOST_TEMPLATE, word_share, words_share, line_share, pass_share, capacity_count, most_page}
use Rattle.report_page.specs.declared.layout.Section.{Section}
use Rattle.report_page.specs.declared.layout.Section.TheVariants.{Title, Step, Heading, Stages, Airlines, Night}
use Rattle.report_page.specs.declared.layout.TheConstants.{WORD, NUMBER, MINUTE, WORDS}
use Rattle.report_page.specs.declared.layout.TheConstants.{OPENING, STYLE, BODY, STAGES, AIRLINES, CAPACITY, PICTURES, SERIES, CLOSING}
use Rattle.report_page.specs.declared.layout.TheConstants.{TITLE, STEP, HEADING, RULES, STAGE, OVER, AIRLINE, NIGHT, NIGHT_LOAD}
use Rattle.report_page.specs.declared.layout.TheConstants.{CAPTION, PEAK, NO_PEAK, FRAME, GRID, BAR, BAR_TITLE, HOURS}
use Rattle.report_page.specs.declared.layout.TheConstants.{UNIT, HELD, ASKED, GIVEN, NOT, FITS}
use Rattle.report_page.proofs.TextLemmas.{number_small, minute_small}

-- ---- words

length_shown : (b : ℕ) → length (shown_byte b) ≤ 6
length_shown b =
    elim (cases_Bool (eqb b 38)) [
      | inl amp ↦ rw amp (omega arith)
      | inr no_amp ↦ elim (cases_Bool (eqb b 60)) [
        | inl lt ↦ rw (no_amp, lt) (omega arith)
        | inr no_lt ↦ elim (cases_Bool (eqb b 62)) [
          | inl gt ↦ rw (no_amp, no_lt, gt) (omega arith)
          | inr no_gt ↦ elim (cases_Bool (eqb b 34)) [
            | inl quote ↦ rw (no_amp, no_lt, no_gt, quote) (omega arith)
            | inr no_quote ↦ elim (cases_Bool (eqb b 39)) [
              | inl tick ↦ rw (no_amp, no_lt, no_gt, no_quote, tick) (omega arith)
              | inr no_tick ↦ elim (cases_Bool (nat_le 32 b && nat_le b 126)) [
                | inl printed ↦ rw (no_amp, no_lt, no_gt, no_quote, no_tick, printed) (omega arith)
                | inr other ↦ rw (no_amp, no_lt, no_gt, no_quote, no_tick, other) (omega arith)
              ]
            ]
          ]
        ]
      ]
    ]

length_escaped : (text : List ℕ) → length (escaped text) ≤ 6 * length text
length_escaped [] = omega arith
length_escaped (b ∷ text) = omega (arith, length-append (shown_byte b) (escaped text), length_shown b, length_escaped text)

decimal_short : (n : ℕ) → n < 2 ^ 64 → length (decimal n) ≤ 20
decimal_short n small = length-decimal-le 20 n (omega arith) (omega (arith, small)) small

word_short : (mark : ℕ) (word : List ℕ) → length (word_piece mark word) ≤ word_share word
word_short mark word =
    let text = length_escaped word in
    let number = decimal_short (number_of word) (number_small 0 word (omega arith)) in
    let minute = decimal_short (minute_of word) (minute_small word) in
    elim (cases_Bool (eqb mark WORD)) [
      | inl is_word ↦ rw is_word (omega (arith, text))
      | inr no_word ↦ elim (cases_Bool (eqb mark NUMBER)) [
        | inl is_number ↦ rw (no_word, is_number) (omega (arith, number))
        | inr no_number ↦ elim (cases_Bool (eqb mark MINUTE)) [
          | inl is_minute ↦ rw (no_word, no_number, is_minute) (omega (arith, minute))
          | inr no_minute ↦ rw (no_word, no_number, no_minute) (omega arith)
        ]
      ]
    ]

told_short : (words : List (List ℕ)) → length (told_words words) + words_share (after_told words) ≤ words_share words
told_short [] = omega arith
told_short (word ∷ words) =
    elim (cases_Bool (is_stop word)) [
      | inl stop ↦ rw stop (omega arith)
      | inr more ↦ rw more (
          let shown : length (32 ∷ (escaped word ++ told_words words)) + words_share (after_told words) ≤ word_share word + words_share words =
          omega (arith, length-append (escaped word) (told_words words), length_escaped word, told_short words) in
          shown)
    ]

next_short : (mark : ℕ) (words : List (List ℕ)) → length (next_piece mark words) + words_share (after_next words) ≤ 1 + words_share words
next_short mark [] = omega arith
next_short mark (word ∷ words) =
    let shown : length (word_piece mark word) + words_share words ≤ 1 + (word_share word + words_share words) =
    omega (arith, word_short mark word) in
    shown

piece_short : (b : ℕ) (words : List (List ℕ)) → length (piece b words) + words_share (words_left b words) ≤ 1 + words_share words
piece_short b words =
    elim (cases_Bool (is_word_mark b)) [
      | inl one ↦ rw one (next_short b words)
      | inr not_one ↦ elim (cases_Bool (eqb b WORDS)) [
        | inl several ↦ rw (not_one, several) (omega (arith, told_short words))
        | inr none ↦ rw (not_one, none) (omega arith)
      ]
    ]

-- ---- templates

filled_length : (template : List ℕ) (words : List (List ℕ)) → length (filled template words) ≤ length template + words_share words
unfolding filled
filled_length [] words = omega arith
filled_length (b ∷ template) words =
    omega (arith, length-append (piece b words) (filled template (words_left b words)), piece_short b words, filled_length template (words_left b words))

-- a template has at most so many bytes, by a test
abbrev is_short : List ℕ → Bool
is_short template = nat_le (length template) MOST_TEMPLATE

either_short : (b : Bool) (x y : List ℕ) → is_short x ≡ true → is_short y ≡ true → is_short (if b then x else y) ≡ true
either_short b x y h k = elim b as (λ v. is_short (if v then x else y) ≡ true) [ true ↦ h | false ↦ k ]

-- what a template shows of a line
shown_length : (template line : List ℕ) → is_short template ≡ true → length (filled template (fields_of line)) ≤ line_share line
shown_length template line short =
    omega (arith, filled_length template (fields_of line), leb-true (length template) MOST_TEMPLATE short)

-- ---- two texts

once : (a b : List ℕ) (x y : ℕ) → length a ≤ x → length b ≤ y → length (a ++ b) ≤ x + y
once a b x y h k = omega (arith, length-append a b, h, k)

twice : (a b : List ℕ) (x y : ℕ) → length a ≤ 2 * x → length b ≤ 2 * y → length (a ++ b) ≤ 2 * (x + y)
twice a b x y h k = omega (arith, length-append a b, h, k)

with_charts : (a b : List ℕ) (one count share x y : ℕ) → length a ≤ 3 * x + one * share → length b ≤ 3 * y + count * share → length (a ++ b) ≤ 3 * (x + y) + (one + count) * share
with_charts a b one count share x y h k = omega (arith, length-append a b, h, k, add-mul one count share)

-- ---- parts

row_short : (section : Section) (words : List (List ℕ)) → is_short (row_of section words) ≡ true
row_short Title words = either_short (word_is 1 (codes "AIRPORT") words) TITLE.now [] refl refl
row_short Step words = either_short (word_is 1 (codes "RULES") words) STEP.now [] refl refl
row_short Heading words =
    either_short (word_is 1 (codes "AIRPORT") words) HEADING.now _ refl
    (either_short (word_is 1 (codes "RULES") words) RULES.now [] refl refl)
row_short Stages words =
    either_short (word_is 1 (codes "STAGE") words) STAGE.now _ refl
    (either_short (word_is 1 (codes "OVER") words) OVER.now [] refl refl)
row_short Airlines words = either_short (word_is 1 (codes "AIRLINE") words) AIRLINE.now [] refl refl
row_short Night words =
    either_short (word_is 1 (codes "NIGHT") words) NIGHT.now _ refl
    (either_short (is_profile (codes "NIGHT") words) NIGHT_LOAD.now [] refl refl)

section_length : (section : Section) (lines : List (List ℕ)) → length (section_rows section lines) ≤ pass_share lines
section_length section [] = omega arith
section_length section (line ∷ lines) =
    let words = fields_of line in
    once (filled (row_of section words) words) (section_rows section lines) (line_share line) (pass_share lines)
    (shown_length (row_of section words) line (row_short section words))
    (section_length section lines)

unit_short : (words : List (List ℕ)) → is_short (unit_row words) ≡ true
unit_short words =
    either_short (word_is 1 (codes "UNIT") words) UNIT.now _ refl
    (either_short (word_is 1 (codes "HELD") words) HELD.now _ refl
    (either_short (word_is 1 (codes "ASKED") words) ASKED.now _ refl
    (either_short (word_is 1 (codes "GIVEN") words) GIVEN.now _ refl
    (either_short (word_is 1 (codes "NOT") words) NOT.now _ refl
    (either_short (word_is 1 (codes "FITS") words) FITS.now [] refl refl)))))

series_length : (told : Bool) (lines : List (List ℕ)) → length (series_rows told lines) ≤ pass_share lines
series_length told [] = omega arith
series_length told (line ∷ lines) =
    let words = fields_of line in
    let now = is_told told words in
    once (filled (told_row now words) words) (series_rows now lines) (line_share line) (pass_share lines)
    (shown_length (told_row now words) line (either_short now (unit_row words) [] (unit_short words) refl))
    (series_length now lines)

-- ---- the pictures

bar_length : (number line : List ℕ) → length (bar number (fields_of line)) ≤ 2 * line_share line
bar_length number line =
    let words = fields_of line in
    elim (cases_Bool (is_profile number words)) [
      | inl shown ↦ rw shown (omega (arith, length-append (filled BAR.now words) (filled BAR_TITLE.now words), shown_length BAR.now line refl, shown_length BAR_TITLE.now line refl))
      | inr other ↦ rw other (omega arith)
    ]

bars_length : (number : List ℕ) (lines : List (List ℕ)) → length (bars number lines) ≤ 2 * pass_share lines
bars_length number [] = omega arith
bars_length number (line ∷ lines) =
    twice (bar number (fields_of line)) (bars number lines) (line_share line) (pass_share lines) (bar_length number line) (bars_length number lines)

one_share : (b : Bool) (best line : List ℕ) → line_share (if b then line else best) ≤ line_share best + line_share line
one_share b best line =
    elim b as (λ v. line_share (if v then line else best) ≤ line_share best + line_share line) [ true ↦ omega arith | false ↦ omega arith ]

higher_share : (number best line : List ℕ) → line_share (higher number best line) ≤ line_share best + line_share line
higher_share number best line =
    one_share (is_profile number (fields_of line) && nat_lt (told_load (fields_of best)) (told_load (fields_of line))) best line

peak_share : (number best : List ℕ) (lines : List (List ℕ)) → line_share (peak_from number best lines) ≤ line_share best + pass_share lines
peak_share number best [] = omega arith
peak_share number best (line ∷ lines) =
    let more : line_share (peak_from number (higher number best line) lines) ≤ line_share best + (line_share line + pass_share lines) =
    omega (arith, higher_share number best line, peak_share number (higher number best line) lines) in
    more

no_words : words_share (fields_of []) ≡ 0
unfolding fields_of
no_words = refl

peak_length : (line : List ℕ) → length (peak_part (fields_of line)) ≤ line_share line
peak_length line =
    let words = fields_of line in
    shown_length (peak_row words) line (either_short (word_is 1 (codes "PROFILE") words) PEAK.now NO_PEAK.now refl refl)

-- what a picture may have beside three shares of its line
abbrev picture_share : List (List ℕ) → ℕ
picture_share all = 3 * pass_share all + 600

picture_length : (all : List (List ℕ)) (line : List ℕ) → length (picture all (fields_of line)) ≤ 3 * line_share line + picture_share all
picture_length all line =
    let words = fields_of line in
    let number = word_at 2 words in
    let peak = peak_from number [] all in
    let caption = filled CAPTION.now words in
    let told = peak_part (fields_of peak) in
    let frame = filled FRAME.now words in
    let grid = filled GRID.now words in
    let shown = bars number all in
    let hours = leb-true (length HOURS.now) MOST_TEMPLATE refl in
    omega (
      arith,
      length-append caption (told ++ (frame ++ (grid ++ (shown ++ HOURS.now)))),
      length-append told (frame ++ (grid ++ (shown ++ HOURS.now))),
      length-append frame (grid ++ (shown ++ HOURS.now)),
      length-append grid (shown ++ HOURS.now),
      length-append shown HOURS.now,
      shown_length CAPTION.now line refl,
      peak_length peak,
      peak_share number [] all,
      no_words,
      shown_length FRAME.now line refl,
      shown_length GRID.now line refl,
      bars_length number all,
      hours,
    )

chart_length : (all : List (List ℕ)) (line : List ℕ) → length (chart all (fields_of line)) ≤ 3 * line_share line + (if word_is 1 (codes "CAPACITY") (fields_of line) then 1 else 0) * picture_share all
chart_length all line =
    elim (cases_Bool (word_is 1 (codes "CAPACITY") (fields_of line))) [
      | inl capacity ↦ rw capacity (omega (arith, picture_length all line, one-mul (picture_share all)))
      | inr other ↦ rw other (omega arith)
    ]

charts_length : (all lines : List (List ℕ)) → length (charts all lines) ≤ 3 * pass_share lines + capacity_count lines * picture_share all
charts_length all [] = omega arith
charts_length all (line ∷ lines) =
    let words = fields_of line in
    with_charts (chart all words) (charts all lines) (if word_is 1 (codes "CAPACITY") words then 1 else 0) (capacity_count lines) (picture_share all) (line_share line) (pass_share lines)
    (chart_length all line) (charts_length all lines)

-- ---- the page

head_length : (lines : List (List ℕ)) → length (head_part lines) ≤ 3000 + 3 * pass_share lines
head_length lines =
    let a = section_rows Title lines in
    let b = section_rows Step lines in
    let d = section_rows Heading lines in
    omega (
      arith,
      length-append OPENING.now (a ++ (STYLE.now ++ (b ++ (BODY.now ++ d)))),
      length-append a (STYLE.now ++ (b ++ (BODY.now ++ d))),
      length-append STYLE.now (b ++ (BODY.now ++ d)),
      length-append b (BODY.now ++ d),
      length-append BODY.now d,
      leb-true (length OPENING.now) 300 refl,
      leb-true (length STYLE.now) 2400 refl,
      leb-true (length BODY.now) 300 refl,
      section_length Title lines,
      section_length Step lines,
      section_length Heading lines,
    )

table_length : (lines : List (List ℕ)) → length (table_part lines) ≤ 800 + 2 * pass_share lines
table_length lines =
    let a = section_rows Stages lines in
    let b = section_rows Airlines lines in
    omega (
      arith,
      length-append STAGES.now (a ++ (AIRLINES.now ++ b)),
      length-append a (AIRLINES.now ++ b),
      length-append AIRLINES.now b,
      leb-true (length STAGES.now) 500 refl,
      leb-true (length AIRLINES.now) 300 refl,
      section_length Stages lines,
      section_length Airlines lines,
    )

last_length : (lines : List (List ℕ)) → length (last_part lines) ≤ 1200 + 5 * pass_share lines + capacity_count lines * picture_share lines
last_length lines =
    let a = section_rows Night lines in
    let b = charts lines lines in
    let d = series_rows false lines in
    omega (
      arith,
      length-append CAPACITY.now (a ++ (PICTURES.now ++ (b ++ (SERIES.now ++ (d ++ CLOSING.now))))),
      length-append a (PICTURES.now ++ (b ++ (SERIES.now ++ (d ++ CLOSING.now)))),
      length-append PICTURES.now (b ++ (SERIES.now ++ (d ++ CLOSING.now))),
      length-append b (SERIES.now ++ (d ++ CLOSING.now)),
      length-append SERIES.now (d ++ CLOSING.now),
      length-append d CLOSING.now,
      leb-true (length CAPACITY.now) 300 refl,
      leb-true (length PICTURES.now) 100 refl,
      leb-true (length SERIES.now) 700 refl,
      leb-true (length CLOSING.now) 100 refl,
      section_length Night lines,
      charts_length lines lines,
      series_length false lines,
    )

pub page_length : (report : List ℕ) → length (page_text report) ≤ most_page (lines_of report)
page_length report =
    let lines = lines_of report in
    omega (
      arith,
      length-append (head_part lines) (table_part lines ++ last_part lines),
      length-append (table_part lines) (last_part lines),
      head_length lines,
      table_length lines,
      last_length lines,
    )
