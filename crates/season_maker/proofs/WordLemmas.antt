-- The lines of units as text, and a worked season.
use Rattle.std.proofs.Common.{◌≡◌, ℕ, ◌+◌, false, List, [], ◌∷◌, ◌++◌, codes, refl, ap, ◌∙◌, arith}
use Rattle.std.specs.Prelude.{nat_lt}
use Rattle.std.proofs.lemmas.Bool.{le-ltb}
use Rattle.std.specs.Fmt.{digits}
use Rattle.slot_text.specs.Ended.{ended}
use Rattle.schedule_text.specs.Times.{time_text}
use Rattle.scr_reader.specs.Bytes.{four_digits}
use Rattle.scr_reader.specs.Printed.{code_letter, number_text, dates_text, joined, line_text}
use Rattle.scr_reader.specs.declared.line.Code.{Code}
use Rattle.scr_reader.specs.declared.line.Code.TheVariants.{N}
use Rattle.season_maker.specs.Draws.{state_after}
use Rattle.season_maker.specs.Generated.{summer_2025, whole_season, arrival_line, turnaround_line, placed_lines}
use Rattle.season_maker.specs.Texts.{generated_capacity, generated_requests}
use Rattle.season_maker.proofs.DayLemmas.{dates}

long_number : (n : ℕ) → number_text (1000 + n) ≡ four_digits (1000 + n)
long_number n = let test : nat_lt (1000 + n) 1000 ≡ false = le-ltb (1000 + n) 1000 (omega arith) in rw test refl

-- from the texts of the number and of the dates
abbrev arrival_by : ℕ → List ℕ → List ℕ → List ℕ → List ℕ
arrival_by letter number period time =
    joined ((letter ∷ 88 ∷ 89 ∷ (number ++ [])) ∷ period ∷ codes "1234567" ∷ codes "180320" ∷ (codes "JFK" ++ time) ∷ codes "J" ∷ [])

abbrev turnaround_by : List ℕ → List ℕ → List ℕ → List ℕ → List ℕ
turnaround_by number period arrival departure =
    joined ((78 ∷ 88 ∷ 89 ∷ (number ++ [])) ∷ (88 ∷ 90 ∷ (number ++ [])) ∷ period ∷ codes "1234567" ∷ codes "180320" ∷ (codes "JFK" ++ arrival) ∷ (departure ++ ([] ++ codes "JFK")) ∷ codes "JJ" ∷ [])

pub arrival_text : (code : Code) (unit minute : ℕ) → line_text summer_2025 code (arrival_line code unit minute)
    ≡ code_letter code ∷ (codes "XY" ++ (four_digits (1000 + unit) ++ (codes " 30MAR25OCT 1234567 180320 JFK" ++ (time_text minute ++ codes " J"))))
arrival_text code unit minute =
    ap (λ (number : List ℕ). arrival_by (code_letter code) number (dates_text summer_2025 whole_season) (time_text minute)) (long_number unit)
    ∙ ap (λ (period : List ℕ). arrival_by (code_letter code) (four_digits (1000 + unit)) period (time_text minute)) dates

pub turnaround_text : (unit arrival departure : ℕ) → line_text summer_2025 N (turnaround_line unit arrival departure)
    ≡ codes "NXY" ++ (four_digits (1000 + unit) ++ (codes " XZ" ++ (four_digits (1000 + unit) ++ (codes " 30MAR25OCT 1234567 180320 JFK" ++ (time_text arrival ++ (32 ∷ (time_text departure ++ codes "JFK JJ")))))))
turnaround_text unit arrival departure =
    ap (λ (number : List ℕ). turnaround_by number (dates_text summer_2025 whole_season) (time_text arrival) (time_text departure)) (long_number unit)
    ∙ ap (λ (period : List ℕ). turnaround_by (four_digits (1000 + unit)) period (time_text arrival) (time_text departure)) dates

pub worked_capacity : generated_capacity 4 ≡ ended (codes "AIRPORT ABC" ∷ codes "SEASON S25" ∷ codes "STEP 5" ∷ codes "FLEX 30" ∷ codes "GROUND 40" ∷ codes "REFUSE 60" ∷ codes "CAP ARR 60 0600 2200 1234567 5" ∷ [])
unfolding digits
worked_capacity = refl

pub worked_requests : generated_requests 1 4
    ≡ ended (codes "SCR" ∷ codes "S25" ∷ codes "20NOV" ∷ codes "ABC" ∷ codes "FXY1000 30MAR25OCT 1234567 180320 JFK0600 J" ∷ codes "NXY1001 30MAR25OCT 1234567 180320 JFK0725 J"
    ∷ codes "BXY1002 30MAR25OCT 1234567 180320 JFK0825 J" ∷ codes "NXY1003 XZ1003 30MAR25OCT 1234567 180320 JFK0925 1030JFK JJ" ∷ [])
unfolding state_after placed_lines
worked_requests =
    ap (λ (period : List ℕ). ended (codes "SCR" ∷ codes "S25" ∷ codes "20NOV" ∷ codes "ABC" ∷ arrival_by 70 (codes "1000") period (codes "0600") ∷ arrival_by 78 (codes "1001") period (codes "0725")
    ∷ arrival_by 66 (codes "1002") period (codes "0825") ∷ turnaround_by (codes "1003") period (codes "0925") (codes "1030") ∷ [])) dates
