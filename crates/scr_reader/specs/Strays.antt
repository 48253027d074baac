-- Headers that name another season or airport than was expected.
use Rattle.std.specs.Prelude.{◌≡◌, ◌≢◌, ℕ, ◌+◌, Option, Some, None}
use Rattle.slot_text.specs.declared.station.Station.{Station}
use Rattle.season_days.specs.Term.{Term}
use Rattle.scr_reader.specs.declared.message.Message.{Message}
use Rattle.scr_reader.specs.declared.stray.StrayLine.{StrayLine}
use Rattle.scr_reader.specs.declared.stray.StrayLine.TheVariants.{Season, Airport}

-- the first line of the header that names another season or airport: none, the season line, or the
-- airport's, two lines below
abbrev pub IsStrayLine : Term → Station → Message → Option StrayLine → Type 0
IsStrayLine season airport message None = (message.season ≡ season) × (message.airport ≡ airport)
IsStrayLine season airport message (Some (Season line)) =
    (message.season ≢ season) × (line ≡ message.line)
IsStrayLine season airport message (Some (Airport line)) =
    (message.season ≡ season) × (message.airport ≢ airport) × (line ≡ message.line + 2)

-- the number of the line
abbrev pub stray_number : StrayLine → ℕ
stray_number (Season line) = line
stray_number (Airport line) = line
