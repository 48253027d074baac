-- The line of a fault in a message, and the season line above it.
use Rattle.std.proofs.Common.{◌≡◌, ℕ, zero, suc, ◌+◌, ◌-◌, ◌<◌, ◌≤◌, Bool, true, false, List, [], ◌∷◌, length, take, drop, Some, None, refl, sym, subst, ◌∙◌, arith, inl, inr}
use Rattle.std.specs.Prelude.{Option, slice_get, if◌then◌else◌}
use Rattle.std.proofs.lemmas.Option.{slice_get_within}
use Rattle.season_days.specs.Term.{Term}
use Rattle.season_days.specs.Seasons.{season_text}
use Rattle.scr_reader.specs.Rows.{trimmed, Row}
use Rattle.scr_reader.specs.Messages.{Run, HeaderPart, title, address, parts_from_season, begins_with_slash, header_parts, header_length, HeaderAgrees, IsPartFault, IsHeaderFault, IsBodyFault, IsMessageFault, IsFirstFault}
use Rattle.scr_reader.specs.declared.header.Header.{Header}
use Rattle.scr_reader.specs.declared.fault.ScrFault.TheVariants.{BadLine, Memory}
use Rattle.fault_causes.specs.Requests.{lines_since, line_of_season}
use Rattle.fault_causes.proofs.PlaceLemmas.{Stands, AllStand}

-- ---- places in lists

pub get_drop : (h k : ℕ) (lines : List (List ℕ)) → slice_get (drop h lines) k ≡ slice_get lines (h + k)
get_drop zero k lines = let e : 0 + k ≡ k = omega arith in rw e refl
get_drop (suc h) k [] = refl
get_drop (suc h) k (line ∷ lines) = let e : suc h + k ≡ suc (h + k) = omega arith in rw e (get_drop h k lines)

-- ---- the season line in a header that agrees

abbrev Names : List (List ℕ) → Header → Type 0
Names above header = (header.season.year < 100) × (trimmed (line_of_season above) ≡ season_text header.season)

abbrev parts_after : Bool → List HeaderPart
parts_after slash = title ∷ (if slash then address ∷ parts_from_season else parts_from_season)

two_lines : (a b : List ℕ) (lines : List (List ℕ)) (header : Header) (slash : Bool) → begins_with_slash b ≡ slash → HeaderAgrees 0 (parts_after slash) (a ∷ b ∷ lines) header → (j : ℕ) → length (parts_after slash) ≤ j
    → Names (take j (a ∷ b ∷ lines)) header
two_lines a b lines header true e agrees zero far = absurd (omega (arith, far))
two_lines a b lines header true e agrees (suc zero) far = absurd (omega (arith, far))
two_lines a b lines header true e agrees (suc (suc zero)) far = absurd (omega (arith, far))
two_lines a b [] header true e agrees (suc (suc (suc j))) far = absurd (agrees.1.1.0)
two_lines a b (c ∷ lines) header true e agrees (suc (suc (suc j))) far = rw e (agrees.1.1.0.1)
two_lines a b lines header false e agrees zero far = absurd (omega (arith, far))
two_lines a b lines header false e agrees (suc zero) far = absurd (omega (arith, far))
two_lines a b lines header false e agrees (suc (suc j)) far = rw e (agrees.1.0.1)

season_above : (lines : List (List ℕ)) (header : Header) → HeaderAgrees 0 (header_parts lines) lines header → (j : ℕ) → header_length lines ≤ j → Names (take j lines) header
season_above [] header agrees j far = absurd agrees.0
season_above (a ∷ []) header agrees j far = absurd agrees.1.0
season_above (a ∷ b ∷ lines) header agrees j far = two_lines a b lines header (begins_with_slash b) refl agrees j far

-- ---- the line of a fault

-- a line of a text, and the season above it
pub record HasLine (lines : List (List ℕ)) (number : ℕ) : Type 0 where
  pub line : List ℕ
  pub season : Term
  pub year : season.year < 100
  pub names : trimmed (line_of_season (lines_since [] (number - 1) lines)) ≡ season_text season
  pub stands : slice_get lines (number - 1) ≡ Some line

-- line k below the header of a run
pub below_header : (lines : List (List ℕ)) (run : Run) (header : Header) → ((j : ℕ) → j < length run.lines → Stands lines run j) → HeaderAgrees 0 (header_parts run.lines) run.lines header
    → (number k : ℕ) (line : List ℕ) → number ≡ run.number + header_length run.lines + k → slice_get (drop (header_length run.lines) run.lines) k ≡ Some line → HasLine lines number
below_header lines run header stand agrees number k line e here =
    let h = header_length run.lines in
    let there : slice_get run.lines (h + k) ≡ Some line = sym (get_drop h k run.lines) ∙ here in
    let at = stand (h + k) (slice_get_within run.lines (h + k) line there) in
    let named = season_above run.lines header agrees (h + k) (omega arith) in
    let place : run.number + (h + k) - 1 ≡ number - 1 = omega (arith, e) in
    record {
      line = line;
      season = header.season;
      year = named.0;
      names = subst (λ (n : ℕ). trimmed (line_of_season (lines_since [] n lines)) ≡ season_text header.season) place (rw at.above named.1);
      stands = subst (λ (n : ℕ). slice_get lines n ≡ Some line) place (at.same ∙ there);
    }

record Bad (number at : ℕ) (lines : List (List ℕ)) : Type 0 where
  k : ℕ
  line : List ℕ
  place : at ≡ number + k
  here : slice_get lines k ≡ Some line

body_bad : (season : Term) (number : ℕ) (before : List (Option Row)) (lines : List (List ℕ)) (rows : List (Option Row)) (at field : ℕ) → IsBodyFault season number before lines rows (BadLine at field) → Bad number at lines
body_bad season number before [] [] at field is = absurd is
body_bad season number before [] (row ∷ rows) at field is = absurd is
body_bad season number before (line ∷ lines) [] at field is = absurd is
body_bad season number before (line ∷ lines) (row ∷ rows) at field (inl here) = record { k = 0; line = line; place = omega (arith, here.0); here = refl }
body_bad season number before (line ∷ lines) (row ∷ rows) at field (inr later) =
    let rest = body_bad season (number + 1) (row ∷ before) lines rows at field later.1 in
    record { k = suc rest.k; line = rest.line; place = omega (arith, rest.place); here = rest.here }

no_part_fault : (part : HeaderPart) (number : ℕ) (line : Option (List ℕ)) (at field : ℕ) → IsPartFault part number line (BadLine at field) → ⊥
no_part_fault part number None at field (inl missing) = absurd (cc)
no_part_fault part number (Some text) at field (inl long) = absurd (let e = long.1 in cc)
no_part_fault part number line at field (inr bad) = absurd (let e = bad.1 in cc)

no_header_fault : (place : ℕ) (parts : List HeaderPart) (first : ℕ) (lines : List (List ℕ)) (at field : ℕ) → IsHeaderFault place parts first lines (BadLine at field) → ⊥
no_header_fault place [] first lines at field is = is
no_header_fault place (part ∷ parts) first lines at field (inl here) = no_part_fault part (first + place) (slice_get lines place) at field here
no_header_fault place (part ∷ parts) first lines at field (inr later) = no_header_fault (place + 1) parts first lines at field later.1

message_line : (lines : List (List ℕ)) (run : Run) → ((j : ℕ) → j < length run.lines → Stands lines run j) → (at field : ℕ) → IsMessageFault run (BadLine at field) → HasLine lines at
message_line lines run stand at field (inl header) = absurd (no_header_fault 0 (header_parts run.lines) run.number run.lines at field header)
message_line lines run stand at field (inr is) =
    let bad = body_bad is.header.season (run.number + header_length run.lines) [] (drop (header_length run.lines) run.lines) is.rows at field is.below in
    below_header lines run is.header stand is.agrees at bad.k bad.line bad.place bad.here

pub fault_line : (lines : List (List ℕ)) (runs : List Run) → AllStand lines runs → (at field : ℕ) → IsFirstFault runs (BadLine at field) → HasLine lines at
fault_line lines [] stand at field is = absurd is
fault_line lines (run ∷ runs) stand at field (inl here) = message_line lines run stand.0 at field here
fault_line lines (run ∷ runs) stand at field (inr later) = fault_line lines runs stand.1 at field later.1

-- ---- no text lacks memory

part_memory : (part : HeaderPart) (number : ℕ) (line : Option (List ℕ)) → IsPartFault part number line Memory → ⊥
part_memory part number None (inl missing) = absurd (cc)
part_memory part number (Some text) (inl long) = absurd (let e = long.1 in cc)
part_memory part number line (inr bad) = absurd (let e = bad.1 in cc)

header_memory : (place : ℕ) (parts : List HeaderPart) (first : ℕ) (lines : List (List ℕ)) → IsHeaderFault place parts first lines Memory → ⊥
header_memory place [] first lines is = is
header_memory place (part ∷ parts) first lines (inl here) = part_memory part (first + place) (slice_get lines place) here
header_memory place (part ∷ parts) first lines (inr later) = header_memory (place + 1) parts first lines later.1

body_memory : (season : Term) (number : ℕ) (before : List (Option Row)) (lines : List (List ℕ)) (rows : List (Option Row)) → IsBodyFault season number before lines rows Memory → ⊥
body_memory season number before [] [] is = is
body_memory season number before [] (row ∷ rows) is = is
body_memory season number before (line ∷ lines) [] is = is
body_memory season number before (line ∷ lines) (row ∷ rows) (inl here) = here
body_memory season number before (line ∷ lines) (row ∷ rows) (inr later) = body_memory season (number + 1) (row ∷ before) lines rows later.1

run_memory : (run : Run) → IsMessageFault run Memory → ⊥
run_memory run (inl header) = header_memory 0 (header_parts run.lines) run.number run.lines header
run_memory run (inr is) = body_memory is.header.season (run.number + header_length run.lines) [] (drop (header_length run.lines) run.lines) is.rows is.below

pub first_memory : (runs : List Run) → IsFirstFault runs Memory → ⊥
first_memory [] is = is
first_memory (run ∷ runs) (inl here) = run_memory run here
first_memory (run ∷ runs) (inr later) = first_memory runs later.1
