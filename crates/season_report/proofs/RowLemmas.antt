-- Lines of alternatives, one alternative after the other, and what their bars keep.
use Rattle.std.proofs.Common.{◌≡◌, ℕ, Bool, true, false, refl, sym, ◌∙◌, ap, List, [], ◌∷◌, ◌++◌}
use Rattle.std.specs.Prelude.{Option, Some, None, All, if◌then◌else◌}
use Rattle.std.specs.List.{flat_map}
use Rattle.std.proofs.lemmas.List.{append_assoc}
use Rattle.std.proofs.lemmas.List.Elements.{All-nil, All-cons, All-head, All-tail}
use Rattle.std.proofs.lemmas.Grind.{flat_map-append}
use Rattle.scr_reader.specs.declared.line.Line.{Line}
use Rattle.season_report.specs.declared.barred.Barred.{Barred}
use Rattle.season_report.specs.declared.barred.Cheaper.{Cheaper}
use Rattle.season_report.specs.declared.barred.Row.{Row}
use Rattle.season_report.specs.Rows.{joins, one_row, with_dates, with_next, rows_of, rows_from}
use Rattle.season_report.specs.Private.{next_row, ended_row, row_after, rows_ended, rows_on}

-- ---- one alternative more

rows_next : (line : Line) (row : Option Row) (next : Cheaper) (rest : List Cheaper) →
    rows_on line row (next ∷ rest) ≡ ended_row line row next ++ rows_on line (Some (next_row line row next)) rest
rows_next line None next rest = refl
rows_next line (Some row) next rest =
    elim (joins line row next) as (λ b. (if b then rows_from line (with_next row next) rest else row ∷ rows_from line (one_row next) rest)
    ≡ (if b then [] else row ∷ []) ++ rows_from line (if b then with_next row next else one_row next) rest) [
      | true ↦ refl
      | false ↦ refl
    ]

-- no alternative or one
abbrev some_of : Bool → Cheaper → List Cheaper
some_of there next = if there then next ∷ [] else []

pub rows_more : (line : Line) (row : Option Row) (there : Bool) (next : Cheaper) (rest : List Cheaper) →
    rows_on line row (some_of there next ++ rest) ≡ rows_ended line row (some_of there next) ++ rows_on line (row_after line row (some_of there next)) rest
rows_more line row true next rest = rows_next line row next rest
rows_more line row false next rest = refl

-- the text so far and that of what is left
pub text_more : (told : Row → List ℕ) (line : Line) (row : Option Row) (there : Bool) (next : Cheaper) (rest : List Cheaper) (before after : List ℕ) →
    after ≡ before ++ flat_map told (rows_ended line row (some_of there next)) →
    after ++ flat_map told (rows_on line (row_after line row (some_of there next)) rest) ≡ before ++ flat_map told (rows_on line row (some_of there next ++ rest))
text_more told line row there next rest before after is =
    let ended = rows_ended line row (some_of there next) in
    let later = rows_on line (row_after line row (some_of there next)) rest in
    ap (λ (t : List ℕ). t ++ flat_map told later) is
    ∙ append_assoc before (flat_map told ended) (flat_map told later)
    ∙ ap (λ (t : List ℕ). before ++ t) (sym (flat_map-append told ended later))
    ∙ ap (λ (rows : List Row). before ++ flat_map told rows) (sym (rows_more line row there next rest))

-- ---- what holds of each alternative's bar holds of each line's

abbrev pub KeepsDates : (Option Barred → Type 0) → Type 0
KeepsDates Q = (one other : Option Barred) → Q one → Q (with_dates one other)

rows_keep_from : (Q : Option Barred → Type 0) (line : Line) (row : Row) (alternatives : List Cheaper) → KeepsDates Q → Q row.barred → All (λ (next : Cheaper). Q next.barred) alternatives →
    All (λ (told : Row). Q told.barred) (rows_from line row alternatives)
rows_keep_from Q line row [] keeps own all = All-cons (λ (told : Row). Q told.barred) row [] own (All-nil (λ (told : Row). Q told.barred))
rows_keep_from Q line row (next ∷ others) keeps own all =
    let head : Q next.barred = All-head (λ (c : Cheaper). Q c.barred) next others all in
    let tail = All-tail (λ (c : Cheaper). Q c.barred) next others all in
    elim (joins line row next) as (λ b. All (λ (told : Row). Q told.barred) (if b then rows_from line (with_next row next) others else row ∷ rows_from line (one_row next) others)) [
      | true ↦ rows_keep_from Q line (with_next row next) others keeps (keeps row.barred next.barred own) tail
      | false ↦ All-cons (λ (told : Row). Q told.barred) row (rows_from line (one_row next) others) own (rows_keep_from Q line (one_row next) others keeps head tail)
    ]

pub rows_keep : (Q : Option Barred → Type 0) (line : Line) (alternatives : List Cheaper) → KeepsDates Q → All (λ (next : Cheaper). Q next.barred) alternatives →
    All (λ (told : Row). Q told.barred) (rows_of line alternatives)
rows_keep Q line [] keeps all = All-nil (λ (told : Row). Q told.barred)
rows_keep Q line (next ∷ others) keeps all =
    rows_keep_from Q line (one_row next) others keeps
    (All-head (λ (c : Cheaper). Q c.barred) next others all)
    (All-tail (λ (c : Cheaper). Q c.barred) next others all)

-- ---- texts that agree on lines with a resource that is there

pub same_lines : (P : Row → Type 0) (one other : Row → List ℕ) (rows : List Row) → All P rows → ((row : Row) → P row → one row ≡ other row) → flat_map one rows ≡ flat_map other rows
same_lines P one other [] all same = refl
same_lines P one other (row ∷ rows) all same =
    ap (λ (t : List ℕ). t ++ flat_map one rows) (same row (All-head P row rows all))
    ∙ ap (λ (t : List ℕ). other row ++ t) (same_lines P one other rows (All-tail P row rows all) same)
