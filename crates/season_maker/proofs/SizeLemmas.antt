-- The files are short.
use Rattle.std.proofs.Common.{ℕ, zero, suc, ◌+◌, ◌*◌, ◌^◌, ◌<◌, ◌≤◌, List, [], ◌∷◌, ◌++◌, length, codes, arith}
use Rattle.std.proofs.lemmas.List.{length-append}
use Rattle.std.proofs.lemmas.Fmt.{length-decimal-le}
use Rattle.std.specs.Fmt.{decimal}
use Rattle.slot_text.specs.Ended.{ended}
use Rattle.season_days.specs.Term.{Term}
use Rattle.scr_reader.specs.Printed.{line_text, items_lines, LineFits, header_lines}
use Rattle.scr_reader.specs.Messages.{header_of}
use Rattle.scr_reader.specs.declared.line.Code.{Code}
use Rattle.scr_reader.specs.declared.line.Line.{Line}
use Rattle.season_maker.specs.Generated.{summer_2025, hourly_limit, unit_line, placed_lines, generated_message}
use Rattle.season_maker.specs.Texts.{generated_capacity, generated_requests}
use Rattle.season_maker.proofs.FitLemmas.{unit_fits}

-- a law of printed lines
abbrev pub ShortLaw : Type 0
ShortLaw = (season : Term) (code : Code) (line : Line) → LineFits season line → length (line_text season code line) ≤ 70

one_longer : (line rest : List ℕ) (n : ℕ) → length line ≤ 70 → length rest ≤ n → length (line ++ 10 ∷ rest) ≤ n + 71
one_longer line rest n short few = omega (arith, length-append line (10 ∷ rest))

lines_short : ShortLaw → (number first count : ℕ) → first + count ≤ 9000 → length (ended (items_lines summer_2025 (placed_lines number first count))) ≤ 71 * count
unfolding placed_lines
lines_short law number first zero few = omega arith
lines_short law number first (suc count) few =
    let line = unit_line number first in
    let longer = one_longer (line_text summer_2025 (unit_line number first).code (unit_line number first)) (ended (items_lines summer_2025 (placed_lines number (suc first) count))) (71 * count)
    (law summer_2025 (unit_line number first).code (unit_line number first) (unit_fits number first (omega arith))) (lines_short law number (suc first) count (omega arith)) in
    omega (arith, longer)

pub requests_short : ShortLaw → (number units : ℕ) → units ≤ 4096 → length (generated_requests number units) ≤ 18 + 71 * units
requests_short law number units few =
    let body = lines_short law number 0 units (omega arith) in
    by_body (ended (items_lines summer_2025 (placed_lines number 0 units))) body
  where
    by_body : (text : List ℕ) → length text ≤ 71 * units → length (ended (header_lines (header_of (generated_message number units))) ++ text) ≤ 18 + 71 * units
    by_body text le = omega arith

pub capacity_short : (units : ℕ) → units ≤ 4096 → length (generated_capacity units) ≤ 100
capacity_short units few =
    let low : hourly_limit units < 10 ^ 4 = omega arith in
    by_number (decimal (hourly_limit units)) (length-decimal-le 4 (hourly_limit units) (omega arith) low (omega arith))
  where
    by_number : (number : List ℕ) → length number ≤ 4 → length (ended (codes "AIRPORT ABC" ∷ codes "SEASON S25" ∷ codes "STEP 5" ∷ codes "FLEX 30" ∷ codes "GROUND 40" ∷ codes "REFUSE 60" ∷ (codes "CAP ARR 60 0600 2200 1234567 " ++ number) ∷ [])) ≤ 100
    by_number number le = omega (arith, length-append number (10 ∷ []))
