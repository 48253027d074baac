-- What is printed of a season before it is allotted.
use Rattle.std.specs.Prelude.{ℕ, Bool, ◌==◌, List, [], ◌∷◌, ◌++◌, length, count_by, sum_by, codes}
use Rattle.std.specs.Fmt.{decimal}
use Rattle.season_days.specs.Term.{Term}
use Rattle.season_days.specs.Capacity.{capacity_of, declared_resources}
use Rattle.series_model.specs.declared.group.Group.{Group}
use Rattle.series_model.specs.declared.group.Group.TheVariants.{F, R, L, B, N}
use Rattle.series_model.specs.declared.unit.Unit.{Unit as SlotUnit}
use Rattle.series_model.specs.Movements.{movements_of}
use Rattle.series_model.specs.Options.{line_times}
use Rattle.series_model.specs.Submissions.{SubmissionView}
use Rattle.series_model.specs.Displacement.{line_dates}
use Rattle.series_model.specs.Stages.{first_states}
use Rattle.report_lines.specs.Heads.{season_line}
use Rattle.report_lines.specs.Peaks.{over_lines, demand_lines}

-- a group's letter
abbrev pub group_letter : Group → ℕ
group_letter F = 70
group_letter R = 82
group_letter L = 76
group_letter B = 66
group_letter N = 78

abbrev pub is_of_group : Group → SlotUnit → Bool
is_of_group group unit = group_letter unit.group == group_letter group

-- how many units ask for this
abbrev pub group_count : Group → List SlotUnit → ℕ
group_count group units = count_by (is_of_group group) units

-- how many dates the units have together
abbrev pub unit_dates : Term → SlotUnit → ℕ
unit_dates season unit = line_dates season unit.request

abbrev pub date_total : Term → List SlotUnit → ℕ
date_total season units = sum_by (unit_dates season) units

-- how many movements one has at its requested times, and all together
abbrev pub movement_count : Term → SlotUnit → ℕ
movement_count season unit = length (movements_of season unit (line_times unit.request))

abbrev pub movement_total : Term → List SlotUnit → ℕ
movement_total season units = sum_by (movement_count season) units

-- ---- the lines

abbrev pub messages_line : ℕ → List ℕ
messages_line n = codes "MESSAGES " ++ (decimal n ++ 10 ∷ [])

abbrev pub units_line : List SlotUnit → List ℕ
units_line units =
    codes "UNITS " ++ (decimal (length units)
    ++ (codes " F " ++ (decimal (group_count F units)
    ++ (codes " R " ++ (decimal (group_count R units)
    ++ (codes " L " ++ (decimal (group_count L units)
    ++ (codes " B " ++ (decimal (group_count B units)
    ++ (codes " N " ++ (decimal (group_count N units) ++ 10 ∷ [])))))))))))

abbrev pub dates_line : Term → List SlotUnit → List ℕ
dates_line season units =
    codes "DATES " ++ (decimal (date_total season units)
    ++ (codes " MOVEMENTS " ++ (decimal (movement_total season units) ++ 10 ∷ [])))

abbrev pub caps_line : ℕ → ℕ → List ℕ
caps_line caps windows =
    codes "CAPS " ++ (decimal caps ++ (codes " WINDOWS " ++ (decimal windows ++ 10 ∷ [])))

-- the airport and the season; the messages; the units, and those of each group; the dates of all
-- units, and the movements of their requested times; the capacity lines, and their windows, of
-- which the night quota is one
abbrev pub season_counts : SubmissionView → List ℕ
season_counts s =
    season_line s.declaration
    ++ (messages_line (length s.messages)
    ++ (units_line s.units
    ++ (dates_line s.declaration.season s.units
    ++ caps_line (length s.declaration.rules) (declared_resources (capacity_of s.declaration)))))

-- these five lines; then where stage 1 has too much in any case, with nothing allotted; and then
-- where the requested times of all units together are above the declared limits
abbrev pub inspection_text : SubmissionView → List ℕ
inspection_text s =
    season_counts s
    ++ (over_lines s.declaration 1 (first_states s.units)
    ++ demand_lines s.declaration s.units)
