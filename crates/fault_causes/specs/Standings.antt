-- What the code finds on the way: where a line stands, and what dates say.
use Rattle.std.specs.Prelude.{◌≡◌, ℕ, Bool, ◌==◌, ◌&&◌, ◌||◌, not, if◌then◌else◌, List, length, Option, Some, None}
use Rattle.season_days.specs.Term.{Term}
use Rattle.season_days.specs.declared.day.DayFault.{DayFault}
use Rattle.season_days.specs.declared.day.DayFault.TheVariants.{NoSuchDate}
use Rattle.scr_reader.specs.Messages.{begins_with_slash, has_address}
use Rattle.fault_causes.specs.Requests.{line_of_season, HasDateForm, HaveDatesForm, IsRealDate, IsInSeason}
use Rattle.fault_causes.specs.declared.shape.Dated.{Dated}
use Rattle.fault_causes.specs.declared.shape.Dated.TheVariants as dated

-- how many lines of the message stand above, whether the second of them is an address, and the line
-- of the season
pub record IsStanding (above : ℕ) (address : Bool) (season : List ℕ) (before : List (List ℕ)) :
    Type 0 where
  pub counts : above ≡ length before
  pub addresses : address ≡ has_address before
  pub names : season ≡ line_of_season before

-- the same of the line behind it: whether the second line is an address, and whether this line is
-- that of the season
abbrev pub address_next : ℕ → Bool → List ℕ → Bool
address_next above address line = if above == 1 then begins_with_slash line else address

abbrev pub is_season_next : ℕ → Bool → Bool
is_season_next above address = (above == 1 && not address) || (above == 2 && address)

-- a date is a day of the season, or none of the calendar, or outside the season
abbrev pub IsDated : Term → ℕ × ℕ → Dated → Type 0
IsDated season date dated.Day = IsInSeason season date
IsDated season date dated.NoDate = IsRealDate season date → ⊥
IsDated season date dated.Outside = IsRealDate season date × (IsInSeason season date → ⊥)

-- what the calendar answers for a date that is no day of the season
abbrev pub dated_fault : DayFault → Dated
dated_fault NoSuchDate = dated.NoDate
dated_fault fault = dated.Outside

-- what a text says as a date, and as two: nothing, where it has not the form
abbrev pub IsDateReading : Term → List ℕ → Option Dated → Type 0
IsDateReading season text None = (date : ℕ × ℕ) → HasDateForm text date → ⊥
IsDateReading season text (Some found) =
    (date : ℕ × ℕ) × HasDateForm text date × IsDated season date found

abbrev pub AreDatesReading : Term → List ℕ → Option (Dated × Dated) → Type 0
AreDatesReading season text None = (first last : ℕ × ℕ) → HaveDatesForm text first last → ⊥
AreDatesReading season text (Some found) =
    (first last : ℕ × ℕ) × HaveDatesForm text first last × IsDated season first found.0
    × IsDated season last found.1
