-- The text of the requests, unit by unit.
use Rattle.std.proofs.Common.{◌≡◌, ℕ, suc, ◌+◌, ◌-◌, ◌<◌, List, [], ◌∷◌, ◌++◌, refl, sym, ap, ◌∙◌, arith, append_assoc}
use Rattle.std.proofs.lemmas.List.{append-nil}
use Rattle.slot_text.specs.Ended.{ended}
use Rattle.season_days.specs.Term.{Term}
use Rattle.scr_reader.specs.Printed.{item_lines, item_text, items_lines, header_lines}
use Rattle.scr_reader.specs.Messages.{header_of}
use Rattle.scr_reader.specs.declared.line.Item.TheVariants.{One}
use Rattle.scr_reader.specs.declared.message.Placed.{Placed}
use Rattle.season_maker.specs.Generated.{summer_2025, unit_line, placed_unit_line, placed_lines, generated_message}
use Rattle.season_maker.specs.Texts.{generated_requests}

pub ended_append : (front back : List (List ℕ)) → ended (front ++ back) ≡ ended front ++ ended back
ended_append [] back = refl
ended_append (line ∷ front) back =
    ap (λ (t : List ℕ). line ++ (10 ∷ t)) (ended_append front back) ∙ sym (append_assoc line (10 ∷ ended front) (ended back))

-- the lines of a list of items
abbrev pub text_of_items : Term → List Placed → List ℕ
text_of_items season items = ended (items_lines season items)

one_more : (season : Term) (placed : Placed) (items : List Placed) → text_of_items season (placed ∷ items) ≡ item_text season placed.item ++ text_of_items season items
one_more season placed items = ended_append (item_lines season placed.item) (items_lines season items)

cons_lines : (number first count : ℕ) → placed_lines number first (suc count) ≡ placed_unit_line number first ∷ placed_lines number (suc first) count
unfolding placed_lines
cons_lines number first count = refl

-- what follows from a unit on
abbrev pub text_from : ℕ → ℕ → ℕ → List ℕ
text_from number unit units = text_of_items summer_2025 (placed_lines number unit (units - unit))

pub unit_text : (number unit units : ℕ) → unit < units → text_from number unit units ≡ item_text summer_2025 (One (unit_line number unit)) ++ text_from number (unit + 1) units
unit_text number unit units lt =
    let count : units - unit ≡ suc (units - (unit + 1)) = omega arith in
    let next : suc unit ≡ unit + 1 = omega arith in
    ap (λ (n : ℕ). text_of_items summer_2025 (placed_lines number unit n)) count
    ∙ ap (λ (items : List Placed). text_of_items summer_2025 items) (cons_lines number unit (units - (unit + 1)))
    ∙ one_more summer_2025 (placed_unit_line number unit) (placed_lines number (suc unit) (units - (unit + 1)))
    ∙ ap (λ (first : ℕ). item_text summer_2025 (One (unit_line number unit)) ++ text_of_items summer_2025 (placed_lines number first (units - (unit + 1)))) next

pub unit_step : (number unit units : ℕ) (before after all : List ℕ) → unit < units → after ≡ before ++ item_text summer_2025 (One (unit_line number unit))
    → before ++ text_from number unit units ≡ all → after ++ text_from number (unit + 1) units ≡ all
unit_step number unit units before after all lt put so_far =
    let line = item_text summer_2025 (One (unit_line number unit)) in
    ap (λ (t : List ℕ). t ++ text_from number (unit + 1) units) put
    ∙ append_assoc before line (text_from number (unit + 1) units)
    ∙ ap (λ (t : List ℕ). before ++ t) (sym (unit_text number unit units lt))
    ∙ so_far

pub begun : (number units : ℕ) → ended (header_lines (header_of (generated_message number units))) ++ text_from number 0 units ≡ generated_requests number units
begun number units =
    let header = header_lines (header_of (generated_message number units)) in
    let none : units - 0 ≡ units = omega arith in
    ap (λ (n : ℕ). ended header ++ text_of_items summer_2025 (placed_lines number 0 n)) none
    ∙ sym (ended_append header (items_lines summer_2025 (placed_lines number 0 units)))

pub no_more : (number units : ℕ) → text_from number units units ≡ []
unfolding placed_lines
no_more number units = let none : units - units ≡ 0 = omega arith in rw none refl

pub all_put : (number unit units : ℕ) (text all : List ℕ) → unit ≡ units → text ++ text_from number unit units ≡ all → text ≡ all
all_put number unit units text all end so_far =
    let none : text_from number unit units ≡ [] = ap (λ (u : ℕ). text_from number u units) end ∙ no_more number units in
    sym (append-nil text) ∙ ap (λ (t : List ℕ). text ++ t) (sym none) ∙ so_far
