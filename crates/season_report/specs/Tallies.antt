-- Tallies of units: how many of them were decided how, and what their slots cost; and the airlines
-- that units are of.
use Rattle.std.specs.Prelude.{ℕ, ◌==◌, Bool, true, false, nat_lt, if◌then◌else◌, List, [], ◌∷◌, ◌++◌, length, filter, count_by, sum_by, Option, Some, None, codes}
use Rattle.std.specs.Fmt.{decimal}
use Rattle.season_days.specs.declared.declaration.Declaration.{Declaration}
use Rattle.scr_reader.specs.declared.line.Stop.{Stop}
use Rattle.scr_reader.specs.Parts.{airline_text}
use Rattle.series_model.specs.declared.unit.Unit.{Unit as SlotUnit}
use Rattle.series_model.specs.declared.times.Times.{Times}
use Rattle.series_model.specs.declared.times.Times.TheVariants.{Refused as refused_times, At}
use Rattle.series_model.specs.Submissions.{are_letters}
use Rattle.series_model.specs.Displacement.{displacement_of}
use Rattle.season_report.specs.declared.decided.Decided.{Decided}
use Rattle.season_report.specs.declared.decided.Decision.TheVariants.{Unallotted, Refused, Kept, Historic, Moved}
use Rattle.season_report.specs.declared.tallies.Tally.{Tally}
use Rattle.season_report.specs.Decisions.{has_decision}

-- ---- tallies

-- what the slots of a unit cost, over all its dates
abbrev pub slots_cost_of : Declaration → SlotUnit → Option Times → ℕ
slots_cost_of d unit None = 0
slots_cost_of d unit (Some refused_times) = 0
slots_cost_of d unit (Some (At arrival departure)) = displacement_of d unit (At arrival departure)

abbrev pub slots_cost : Declaration → Decided → ℕ
slots_cost d u = slots_cost_of d u.unit u.given

abbrev pub tally_of : Declaration → List Decided → Tally
tally_of d units = record {
  units = length units;
  kept = count_by (has_decision Kept) units;
  historic = count_by (has_decision Historic) units;
  moved = count_by (has_decision Moved) units;
  refused = count_by (has_decision Refused) units;
  unallotted = count_by (has_decision Unallotted) units;
  minutes = sum_by (slots_cost d) units;
}

abbrev pub tally_words : Tally → List ℕ
tally_words t =
    codes "UNITS " ++ (decimal t.units
    ++ (codes " KEPT " ++ (decimal t.kept
    ++ (codes " HISTORIC " ++ (decimal t.historic
    ++ (codes " MOVED " ++ (decimal t.moved
    ++ (codes " REFUSED " ++ (decimal t.refused
    ++ (codes " NONE " ++ (decimal t.unallotted
    ++ (codes " MINUTES " ++ decimal t.minutes))))))))))))

-- ---- airlines

-- that of the arrival's flight, and without an arrival that of the departure's
abbrev pub airline_by : Option Stop → Option Stop → List ℕ
airline_by (Some coming) going = coming.flight.airline
airline_by None (Some going) = going.flight.airline
airline_by None None = 0 ∷ 0 ∷ 0 ∷ []

abbrev pub airline_of : Decided → List ℕ
airline_of u = airline_by u.unit.request.arrival u.unit.request.departure

abbrev pub is_of_airline : List ℕ → Decided → Bool
is_of_airline airline u = are_letters airline (airline_of u)

-- in the order of bytes
abbrev pub comes_before : List ℕ → List ℕ → Bool
comes_before [] [] = false
comes_before [] (b ∷ other) = true
comes_before (a ∷ one) [] = false
comes_before (a ∷ one) (b ∷ other) =
    if a == b then comes_before one other else nat_lt a b

-- an airline put into its place among others, where it is not there yet
abbrev pub with_airline : List (List ℕ) → List ℕ → List (List ℕ)
with_airline [] airline = airline ∷ []
with_airline (other ∷ others) airline =
    if are_letters airline other then other ∷ others
    else (if comes_before airline other then airline ∷ other ∷ others
    else other ∷ with_airline others airline)

-- each airline that a unit is of, once
abbrev pub airlines_from : List (List ℕ) → List Decided → List (List ℕ)
airlines_from airlines [] = airlines
airlines_from airlines (u ∷ units) = airlines_from (with_airline airlines (airline_of u)) units

abbrev pub airlines_of : List Decided → List (List ℕ)
airlines_of units = airlines_from [] units

abbrev pub airline_line : Declaration → List Decided → List ℕ → List ℕ
airline_line d units airline =
    codes "AIRLINE "
    ++ (airline_text airline
    ++ (32 ∷ (tally_words (tally_of d (filter (is_of_airline airline) units)) ++ 10 ∷ [])))
