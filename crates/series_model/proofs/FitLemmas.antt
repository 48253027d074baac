-- The units of messages whose lines have a spelling have lines with a spelling.
use Rattle.std.proofs.Common.{◌≡◌, ℕ, true, List, [], ◌∷◌, Some, None, refl, sym, ap, subst, ◌∙◌, inl, inr}
use Rattle.std.specs.Prelude.{Option, All, ◌==◌}
use Rattle.std.specs.Option.{option_map, option_or}
use Rattle.std.specs.List.{filter_map, cons_option}
use Rattle.std.proofs.lemmas.Bool.{cases_Bool, and_parts, eqb-true}
use Rattle.std.proofs.lemmas.List.Elements.{All-nil, All-cons, All-head, All-tail, All-append}
use Rattle.season_days.specs.Term.{Term}
use Rattle.season_days.specs.declared.season.Half.{Half}
use Rattle.season_days.specs.declared.season.Half.TheVariants.{Summer, Winter}
use Rattle.season_days.specs.declared.declaration.Declaration.{Declaration}
use Rattle.scr_reader.specs.declared.line.Line.{Line}
use Rattle.scr_reader.specs.declared.line.Item.{Item}
use Rattle.scr_reader.specs.declared.line.Item.TheVariants.{One, Pair, Query}
use Rattle.scr_reader.specs.declared.line.Code.{Code}
use Rattle.scr_reader.specs.declared.line.Code.TheVariants.{N, B, F, C, R, L, D, A, Z, K, H, O, U, W, X}
use Rattle.scr_reader.specs.declared.message.Placed.{Placed}
use Rattle.scr_reader.specs.declared.message.Message.{Message}
use Rattle.scr_reader.specs.Printed.{LineFits, ItemFits, ItemsFit, MessagesFit}
use Rattle.series_model.specs.declared.fault.ModelFault.{ModelFault}
use Rattle.series_model.specs.declared.fault.ModelFault.TheVariants.{OtherSeason}
use Rattle.series_model.specs.declared.unit.Unit.{Unit as SlotUnit}
use Rattle.series_model.specs.Units.{group_of, pair_group, single_unit, unit_of, placed_unit, message_units, units_of, IsHistoric, HistoricFits, UnitFits}
use Rattle.series_model.proofs.UnitLemmas.{no_more}
use Rattle.series_model.specs.Submissions.{is_half, is_season, message_fault, first_fault, ItemPairs, PlacedPairs, MessagePairs}

-- ---- the unit of an item

abbrev OptionFits : Term → Option SlotUnit → Type 0
OptionFits season None = Unit {0}
OptionFits season (Some unit) = UnitFits season unit

single_fits : (season : Term) (number : ℕ) (request : Line) (code : Code) → LineFits season request → OptionFits season (option_map (single_unit number request) (group_of code))
single_fits season number request N fits = record { request = fits; historic = refl }
single_fits season number request B fits = record { request = fits; historic = refl }
single_fits season number request F fits = record { request = fits; historic = refl }
single_fits season number request C fits = tt
single_fits season number request R fits = tt
single_fits season number request L fits = tt
single_fits season number request D fits = tt
single_fits season number request A fits = tt
single_fits season number request Z fits = tt
single_fits season number request K fits = tt
single_fits season number request H fits = tt
single_fits season number request O fits = tt
single_fits season number request U fits = tt
single_fits season number request W fits = tt
single_fits season number request X fits = tt

pair_historic : (season : Term) (request historic : Line) (code : Code) → IsHistoric season request historic → HistoricFits season request (pair_group code) (Some historic)
pair_historic season request historic N is = is
pair_historic season request historic B is = is
pair_historic season request historic F is = is
pair_historic season request historic C is = is
pair_historic season request historic R is = is
pair_historic season request historic L is = is
pair_historic season request historic D is = is
pair_historic season request historic A is = is
pair_historic season request historic Z is = is
pair_historic season request historic K is = is
pair_historic season request historic H is = is
pair_historic season request historic O is = is
pair_historic season request historic U is = is
pair_historic season request historic W is = is
pair_historic season request historic X is = is

unit_fits : (season : Term) (number : ℕ) (item : Item) → ItemFits season item → ItemPairs item → OptionFits season (unit_of number item)
unit_fits season number (One request) fits pairs = single_fits season number request request.code fits
unit_fits season number (Pair historic request) fits pairs =
    let is : IsHistoric season request historic = record { fits = fits.0; arrivals = pairs.arrivals; departures = pairs.departures; period = pairs.period } in
    record { request = fits.1; historic = pair_historic season request historic request.code is }
unit_fits season number (Query flight) fits pairs = tt

-- ---- the units of items, and of messages

cons_fits : (season : Term) (unit : Option SlotUnit) (units : List SlotUnit) → OptionFits season unit → All (UnitFits season) units → All (UnitFits season) (cons_option unit units)
cons_fits season None units fits rest = rest
cons_fits season (Some unit) units fits rest = All-cons (UnitFits season) unit units fits rest

items_fit : (season : Term) (items : List Placed) → ItemsFit season items → All PlacedPairs items → All (UnitFits season) (filter_map placed_unit items)
items_fit season [] fits pairs = All-nil (UnitFits season)
items_fit season (placed ∷ items) fits pairs =
    cons_fits season (placed_unit placed) (filter_map placed_unit items) (unit_fits season placed.line placed.item fits.0 (All-head PlacedPairs placed items pairs))
    (items_fit season items fits.1 (All-tail PlacedPairs placed items pairs))

half_same : (a b : Half) → is_half a b ≡ true → a ≡ b
half_same Summer Summer is = refl
half_same Summer Winter is = absurd cc
half_same Winter Summer is = absurd cc
half_same Winter Winter is = refl

season_same : (a b : Term) → is_season a b ≡ true → a ≡ b
season_same a b is =
    let both = and_parts (is_half a.half b.half) (a.year == b.year) is in
    let half = half_same a.half b.half both.0 in
    let year = eqb-true a.year b.year both.1 in
    λ i. record { half = half i; year = year i }

right_season : (d : Declaration) (m : Message) (rest : Option ModelFault) → option_or (message_fault d m) rest ≡ None → is_season m.season d.season ≡ true
right_season d m rest none =
    elim (cases_Bool (is_season m.season d.season)) [
      | inl same ↦ same
      | inr other ↦
          let fault : message_fault d m ≡ Some (OtherSeason m.line) = rw other refl in
          let wrong : Some (OtherSeason m.line) ≡ None = ap (λ (o : Option ModelFault). option_or o rest) (sym fault) ∙ none in
          absurd cc
    ]

pub units_fit : (d : Declaration) (messages : List Message) → first_fault d messages ≡ None → MessagesFit messages → All MessagePairs messages → All (UnitFits d.season) (units_of messages)
units_fit d [] none fits pairs = All-nil (UnitFits d.season)
units_fit d (m ∷ messages) none fits pairs =
    let same : m.season ≡ d.season = season_same m.season d.season (right_season d m (first_fault d messages) none) in
    let here : ItemsFit d.season m.items = subst (λ (s : Term). ItemsFit s m.items) same fits.0 in
    All-append (UnitFits d.season) (message_units m) (units_of messages) (items_fit d.season m.items here (All-head MessagePairs m messages pairs))
    (units_fit d messages (no_more (message_fault d m) (first_fault d messages) none) fits.1 (All-tail MessagePairs m messages pairs))
