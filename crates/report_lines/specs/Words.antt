-- Words of a report: times, and the windows of capacity lines.
use Rattle.std.specs.Prelude.{ℕ, suc, ◌-◌, ◌/◌, ◌%◌, ◌<◌, ◌==◌, nat_lt, if◌then◌else◌, List, [], ◌∷◌, ◌++◌, Option, Some, None, codes}
use Rattle.std.specs.Fmt.{decimal}
use Rattle.schedule_text.specs.Times.{time_text}
use Rattle.season_days.specs.Term.{Term}
use Rattle.season_days.specs.Seasons.{date_count}
use Rattle.season_days.specs.declared.declaration.Rule.{Rule}
use Rattle.season_days.specs.declared.declaration.Night.{Night as NightQuota}
use Rattle.season_days.specs.declared.declaration.TheConstants.{MINUTES_OF_DAY}
use Rattle.scr_reader.specs.declared.line.Line.{Line}
use Rattle.scr_reader.specs.declared.line.Stop.{Stop}
use Rattle.scr_reader.specs.declared.line.Code.{Code}
use Rattle.scr_reader.specs.Printed.{nights_text, day_text, line_text}
use Rattle.capacity_windows.specs.Windows.{Capacity, start_of, starts_of, windows_of}
use Rattle.series_model.specs.declared.times.Times.{Times}
use Rattle.series_model.specs.declared.times.Times.TheVariants.{Refused, At}
use Rattle.report_lines.specs.declared.names.WindowName.{WindowName}
use Rattle.report_lines.specs.declared.names.WindowName.TheVariants.{Window, Night, Nothing}

-- ---- times of a line: a word for the arrival, a blank, and a word for the departure

-- hours and minutes, and then the nights, where there are any; a hyphen where the line has no such
-- movement
abbrev pub stop_word : Option Stop → ℕ → List ℕ
stop_word None minute = codes "-"
stop_word (Some stop) minute =
    time_text (minute % MINUTES_OF_DAY) ++ nights_text (minute / MINUTES_OF_DAY)

abbrev pub times_words : Line → Times → List ℕ
times_words line Refused = codes "- -"
times_words line (At arrival departure) =
    stop_word line.arrival arrival ++ (32 ∷ stop_word line.departure departure)

-- ---- lines

-- a word and a line in its printed spelling
abbrev pub quoted : Term → List ℕ → Code → Line → List ℕ
quoted season word code line = word ++ (line_text season code line ++ 10 ∷ [])

-- ---- which window a resource is

-- of a capacity line, counted from 1, the window of a day that begins at a minute; or the night
-- quota
abbrev pub quota_name : Option NightQuota → ℕ → WindowName
quota_name None r = Nothing
quota_name (Some night) r = if r == 0 then Night else Nothing

abbrev pub name_from : Capacity → ℕ → List Rule → ℕ → WindowName
name_from c line [] r = quota_name c.night r
name_from c line (rule ∷ rules) r =
    if nat_lt r (windows_of c rule)
    then Window line (r / starts_of c.step rule)
    (start_of c.step rule (r % starts_of c.step rule))
    else name_from c (suc line) rules (r - windows_of c rule)

abbrev pub name_of : Capacity → ℕ → WindowName
name_of c r = name_from c 1 c.rules r

abbrev pub name_words : Term → WindowName → List ℕ
name_words season (Window line day minute) =
    codes "CAP " ++ (decimal line ++ (32 ∷ (day_text season day ++ (32 ∷ time_text minute))))
name_words season Night = codes "NIGHT"
name_words season Nothing = []

abbrev pub resource_words : Capacity → ℕ → List ℕ
resource_words c r = name_words c.season (name_of c r)

-- the day of a window is one of the season
abbrev pub IsNamedDay : Term → WindowName → Type 0
IsNamedDay season (Window line day minute) = day < date_count season
IsNamedDay season Night = Unit {0}
IsNamedDay season Nothing = Unit {0}
