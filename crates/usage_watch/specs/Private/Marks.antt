-- For each flight the days on which its movements of one kind are reported.
use Rattle.std.specs.Prelude.{◌≡◌, ℕ, ◌<◌, Bool, false, List, [], slice_index_or, Option, Some, None, Vec}
use Rattle.season_days.specs.Term.{Term}
use Rattle.season_days.specs.declared.declaration.Kind.{Kind}
use Rattle.season_days.specs.declared.season.TheConstants.{MOST_DATES}
use Rattle.scr_reader.specs.declared.line.Flight.{Flight}
use Rattle.indexmap.specs.IndexMap.{get}
use Rattle.holding_book.specs.Lines.{is_flight}
use Rattle.usage_watch.specs.declared.operated.Operated.{Operated}
use Rattle.usage_watch.specs.declared.marks.FlightDays.{FlightDays}
use Rattle.usage_watch.specs.Precedence.{is_reported}

-- what contracts see of the reports, made ready to be looked up
pub record ReportedView : Type 0 where
  pub season : Term
  pub reports : List Operated

abbrev pub days_or_none : {A : Type 0} → Option (Vec Bool A) → List Bool
days_or_none None = []
days_or_none (Some days) = days.items

-- the marks of a flight, day by day
abbrev pub flight_marks : FlightDays → Flight → List Bool
flight_marks kept flight = days_or_none (get is_flight kept.days flight)

abbrev pub is_marked : FlightDays → Flight → ℕ → Bool
is_marked kept flight day = slice_index_or (flight_marks kept flight) day false

-- of the days that a season may have, those are marked that the reports name
abbrev pub AreMarked : Term → List Operated → Kind → FlightDays → Type 0
AreMarked season reports kind kept = (flight : Flight) (day : ℕ) → day < MOST_DATES →
    is_marked kept flight day ≡ is_reported season reports kind flight day
