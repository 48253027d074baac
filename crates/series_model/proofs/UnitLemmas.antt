-- The units of messages, and their first fault, item by item.
use Rattle.std.proofs.Common.{◌≡◌, ℕ, suc, ◌+◌, ◌<◌, ◌≤◌, List, [], ◌∷◌, ◌++◌, length, take, get_or, Some, None, refl, sym, ap, ◌∙◌, arith, inl, inr}
use Rattle.std.specs.Prelude.{Option, All, is_none, if◌then◌else◌}
use Rattle.std.specs.Option.{option_or}
use Rattle.std.specs.List.{filter_map, cons_option, flat_map}
use Rattle.std.proofs.lemmas.Bool.{cases_Bool}
use Rattle.std.proofs.lemmas.List.{take_more, append_assoc, append-nil, length-append}
use Rattle.std.proofs.lemmas.List.Elements.{filter_map-append, All-nil, All-cons, All-head, All-tail}
use Rattle.std.proofs.lemmas.List.Concat.{flat_map-append}
use Rattle.std.proofs.lemmas.List.Sums.{sum_by-cons, sum_by_more, sum_by_more_le}
use Rattle.season_days.specs.declared.declaration.Declaration.{Declaration}
use Rattle.scr_reader.specs.declared.message.Placed.{Placed}
use Rattle.scr_reader.specs.declared.message.Message.{Message}
use Rattle.series_model.specs.declared.unit.Unit.{Unit as SlotUnit}
use Rattle.series_model.specs.Units.{placed_unit, message_units, units_of}
use Rattle.series_model.specs.declared.fault.ModelFault.{ModelFault}
use Rattle.series_model.specs.declared.fault.ModelFault.TheVariants.{OtherSeason, OtherAirport, NotInitial}
use Rattle.series_model.specs.Submissions.{is_season, is_station, items_fault, message_fault, first_fault, item_count, MakesUnits}

-- one item more
pub filter_map_more : {X Y : Type 0} (h : X → Option Y) (xs : List X) (i : ℕ) (d : X) → i < length xs → filter_map h (take (i + 1) xs) ≡ filter_map h (take i xs) ++ cons_option (h (get_or xs i d)) []
filter_map_more h xs i d lt = ap (λ ys. filter_map h ys) (take_more xs i d lt) ∙ filter_map-append h (take i xs) (get_or xs i d ∷ [])

pub flat_map_next : {X Y : Type 0} (f : X → List Y) (xs : List X) (i : ℕ) (d : X) → i < length xs → flat_map f (take (i + 1) xs) ≡ flat_map f (take i xs) ++ f (get_or xs i d)
flat_map_next f xs i d lt = ap (λ ys. flat_map f ys) (take_more xs i d lt) ∙ flat_map-append f (take i xs) (get_or xs i d ∷ []) ∙ ap (λ ys. flat_map f (take i xs) ++ ys) (append-nil (f (get_or xs i d)))

pub pushed_more : {X Y : Type 0} (h : X → Option Y) (xs : List X) (i : ℕ) (d : X) (start before after : List Y) → i < length xs → after ≡ before ++ cons_option (h (get_or xs i d)) [] → before ≡ start ++ filter_map h (take i xs)
    → after ≡ start ++ filter_map h (take (i + 1) xs)
pushed_more h xs i d start before after lt pushed so_far =
    pushed ∙ ap (λ ys. ys ++ cons_option (h (get_or xs i d)) []) so_far ∙ append_assoc start (filter_map h (take i xs)) (cons_option (h (get_or xs i d)) []) ∙ ap (λ ys. start ++ ys) (sym (filter_map_more h xs i d lt))

-- ---- how many units there are

abbrev items_of_one : Message → ℕ
items_of_one message = length message.items

-- a message more
pub items_more : (messages : List Message) (i : ℕ) (m : Message) (items : List Placed) → i < length messages → m ≡ get_or messages i m → items ≡ m.items
    → (item_count (take (i + 1) messages) ≡ item_count (take i messages) + length items) × (item_count (take (i + 1) messages) ≤ item_count messages)
items_more messages i m items lt is same =
    let next = sum_by_more items_of_one messages i m lt in
    let all = sum_by_more_le items_of_one messages i m lt in
    let here : length (get_or messages i m).items ≡ length items = ap (λ (x : Message). length x.items) (sym is) ∙ ap (λ (xs : List Placed). length xs) (sym same) in
    (omega (arith, next, here), omega (arith, next, all))

-- items without a fault make a unit each
one_by : (placed : Placed) (items : List Placed) (unit : Option SlotUnit) → (items_fault items ≡ None → length (filter_map placed_unit items) ≡ length items) →
    option_or (if is_none unit then Some (NotInitial placed.line) else None) (items_fault items) ≡ None → length (cons_option unit (filter_map placed_unit items)) ≡ suc (length items)
one_by placed items None rest none = absurd cc
one_by placed items (Some unit) rest none = ap suc (rest none)

one_each : (items : List Placed) → items_fault items ≡ None → length (filter_map placed_unit items) ≡ length items
one_each [] none = refl
one_each (placed ∷ items) none = one_by placed items (placed_unit placed) (one_each items) none

-- ---- messages without a fault

no_first : (o rest : Option ModelFault) → option_or o rest ≡ None → o ≡ None
no_first None rest none = refl
no_first (Some fault) rest none = absurd cc

pub no_more : (o rest : Option ModelFault) → option_or o rest ≡ None → rest ≡ None
no_more None rest none = none
no_more (Some fault) rest none = absurd cc

no_items : (d : Declaration) (m : Message) → message_fault d m ≡ None → items_fault m.items ≡ None
no_items d m none =
    elim (cases_Bool (is_season m.season d.season)) [
      | inl season ↦ elim (cases_Bool (is_station m.airport d.airport)) [
        | inl airport ↦ let shape : message_fault d m ≡ items_fault m.items = rw (season, airport) refl in sym shape ∙ none
        | inr airport ↦
            let shape : message_fault d m ≡ Some (OtherAirport (m.line + 2)) = rw (season, airport) refl in
            let wrong : Some (OtherAirport (m.line + 2)) ≡ None = sym shape ∙ none in
            absurd cc
      ]
      | inr season ↦
          let shape : message_fault d m ≡ Some (OtherSeason m.line) = rw season refl in
          let wrong : Some (OtherSeason m.line) ≡ None = sym shape ∙ none in
          absurd cc
    ]

pub make_units : (d : Declaration) (messages : List Message) → first_fault d messages ≡ None → All MakesUnits messages
make_units d [] none = All-nil MakesUnits
make_units d (m ∷ messages) none =
    All-cons MakesUnits m messages (one_each m.items (no_items d m (no_first (message_fault d m) (first_fault d messages) none)))
    (make_units d messages (no_more (message_fault d m) (first_fault d messages) none))

pub units_counted : (messages : List Message) → All MakesUnits messages → length (units_of messages) ≡ item_count messages
units_counted [] all = refl
units_counted (m ∷ messages) all =
    let long = length-append (message_units m) (units_of messages) in
    let sum = sum_by-cons items_of_one m messages in
    omega (arith, long, sum, All-head MakesUnits m messages all, units_counted messages (All-tail MakesUnits m messages all))
