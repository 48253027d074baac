-- A submission of the generated season refuses nothing.
use Rattle.std.proofs.Common.{◌≡◌, ℕ, zero, suc, ◌+◌, ◌%◌, ◌≤◌, Bool, true, false, List, [], ◌∷◌, length, Option, Some, None, is_some, is_none, Ok, refl, ap, ◌∙◌}
use Rattle.std.specs.Prelude.{◌==◌, if◌then◌else◌, nat_lt}
use Rattle.std.specs.Option.{option_or}
use Rattle.std.specs.List.{filter_map, cons_option}
use Rattle.std.proofs.lemmas.Bool.{le-ltb}
use Rattle.std.proofs.lemmas.List.{append-nil}
use Rattle.slot_text.specs.declared.station.Station.{Station}
use Rattle.season_days.specs.Term.{Term}
use Rattle.season_days.specs.declared.declaration.Declaration.{Declaration}
use Rattle.scr_reader.specs.declared.line.Line.{Line}
use Rattle.scr_reader.specs.declared.line.Item.TheVariants.{One}
use Rattle.scr_reader.specs.declared.message.Placed.{Placed}
use Rattle.series_model.specs.declared.fault.ModelFault.{ModelFault}
use Rattle.series_model.specs.declared.fault.ModelFault.TheVariants.{OtherSeason, OtherAirport}
use Rattle.series_model.specs.declared.unit.Unit.{Unit as SlotUnit}
use Rattle.series_model.specs.Units.{unit_of, placed_unit, units_of}
use Rattle.series_model.specs.Submissions.{is_season, is_station, item_fault, items_fault, message_fault, first_fault, too_many, refusal, answer_by, submission_of, submission_answer}
use Rattle.season_maker.specs.Generated.{summer_2025, airport_abc, placed_unit_line, placed_lines, generated_message, IsGeneratedDeclaration}

by_cases : (P : Line → Type 0) (test : Bool) (one other : Line) → P one → P other → P (if test then one else other)
by_cases P true one other is is_other = is
by_cases P false one other is is_other = is_other

makes_unit : (number unit : ℕ) → is_some (placed_unit (placed_unit_line number unit)) ≡ true
makes_unit number unit =
    let P = λ (line : Line). is_some (unit_of (5 + unit) (One line)) ≡ true in
    by_cases P (unit % 4 == 0) _ _ refl (by_cases P (unit % 4 == 1) _ _ refl (by_cases P (unit % 4 == 2) _ _ refl refl))

-- ---- items

no_fault : (made : Option SlotUnit) (fault : ModelFault) → is_some made ≡ true → (if is_none made then Some fault else None) ≡ None
no_fault None fault e = cc
no_fault (Some unit) fault e = refl

one_longer : (made : Option SlotUnit) (units : List SlotUnit) → is_some made ≡ true → length (cons_option made units) ≡ suc (length units)
one_longer None units e = cc
one_longer (Some unit) units e = refl

no_item_fault : (placed : Placed) → is_some (placed_unit placed) ≡ true → item_fault placed ≡ None
no_item_fault placed e = no_fault (placed_unit placed) _ e

no_items_fault : (number first count : ℕ) → items_fault (placed_lines number first count) ≡ None
unfolding placed_lines
no_items_fault number first zero = refl
no_items_fault number first (suc count) =
    ap (λ (fault : Option ModelFault). option_or fault (items_fault (placed_lines number (suc first) count))) (no_item_fault (placed_unit_line number first) (makes_unit number first))
    ∙ no_items_fault number (suc first) count

unit_count : (number first count : ℕ) → length (filter_map placed_unit (placed_lines number first count)) ≡ count
unfolding placed_lines
unit_count number first zero = refl
unit_count number first (suc count) =
    one_longer (placed_unit (placed_unit_line number first)) _ (makes_unit number first) ∙ ap (λ (n : ℕ). suc n) (unit_count number (suc first) count)

pub units_made : (number units : ℕ) → length (units_of (generated_message number units ∷ [])) ≡ units
units_made number units =
    ap (λ (made : List SlotUnit). length made) (append-nil (filter_map placed_unit (placed_lines number 0 units))) ∙ unit_count number 0 units

-- ---- the message

no_message_fault : (d : Declaration) (number units : ℕ) → d.season ≡ summer_2025 → d.airport ≡ airport_abc → message_fault d (generated_message number units) ≡ None
no_message_fault d number units season airport =
    by_header (is_season summer_2025 d.season) (is_station airport_abc d.airport) (ap (λ (s : Term). is_season summer_2025 s) season) (ap (λ (a : Station). is_station airport_abc a) airport)
  where
    by_header : (same here : Bool) → same ≡ true → here ≡ true
        → (if same then (if here then items_fault (placed_lines number 0 units) else Some (OtherAirport (2 + 2))) else Some (OtherSeason 2)) ≡ None
    by_header true true same here = no_items_fault number 0 units
    by_header true false same here = cc
    by_header false here same is = cc

pub taken : (number units : ℕ) (d : Declaration) → units ≤ 4096 → IsGeneratedDeclaration units d → submission_answer d (generated_message number units ∷ []) ≡ Ok (submission_of d (generated_message number units ∷ []))
taken number units d few is =
    let message = generated_message number units in
    let lines : first_fault d (generated_message number units ∷ []) ≡ None = ap (λ (fault : Option ModelFault). option_or fault None) (no_message_fault d number units is.season is.airport) in
    let size : too_many (length (units_of (generated_message number units ∷ []))) ≡ None = ap too_many (units_made number units) ∙ fits units few in
    let none : refusal d (generated_message number units ∷ []) ≡ None =
    ap (λ (fault : Option ModelFault). option_or fault (too_many (length (units_of (generated_message number units ∷ []))))) lines ∙ size in
    ap (λ (fault : Option ModelFault). answer_by fault (submission_of d (generated_message number units ∷ []))) none
  where
    fits : (n : ℕ) → n ≤ 4096 → too_many n ≡ None
    fits n le = let test : nat_lt 4096 n ≡ false = le-ltb 4096 n le in rw test refl
