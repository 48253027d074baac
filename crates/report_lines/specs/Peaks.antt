-- The day on which the windows of one capacity line and start are used most, or are above a limit
-- by most; and the least that the units of a stage use of a resource, whatever they are given.
use Rattle.std.specs.Prelude.{ℕ, suc, ◌+◌, ◌-◌, ◌*◌, ◌==◌, Bool, nat_lt, min, if◌then◌else◌, List, [], ◌∷◌, ◌++◌, length, map, filter, sum_by, Option, Some, None, codes, ◌≡◌, ◌<◌, slice_index}
use Rattle.season_days.specs.Capacity.{declared_resources}
use Rattle.std.specs.Fmt.{decimal}
use Rattle.std.specs.List.{range_with_len, flat_map}
use Rattle.schedule_text.specs.Times.{time_text}
use Rattle.season_days.specs.Seasons.{date_count, is_on}
use Rattle.season_days.specs.declared.declaration.Declaration.{Declaration}
use Rattle.season_days.specs.declared.declaration.Rule.{Rule}
use Rattle.season_days.specs.declared.declaration.Night.{Night as NightQuota}
use Rattle.scr_reader.specs.Printed.{day_text}
use Rattle.capacity_windows.specs.Windows.{Capacity, capacity_of, start_of, starts_of, windows_of, window_load, window_limit}
use Rattle.capacity_windows.specs.declared.movement.Movement.{Movement}
use Rattle.series_model.specs.declared.unit.Unit.{Unit as SlotUnit}
use Rattle.series_model.specs.declared.times.Times.{Times}
use Rattle.series_model.specs.declared.state.UnitState.{UnitState}
use Rattle.series_model.specs.Options.{options_of, line_times}
use Rattle.series_model.specs.Movements.{movements_of}
use Rattle.series_model.specs.Stages.{movements_given, stage_units, stage_limit}
use Rattle.report_lines.specs.Words.{name_words}
use Rattle.report_lines.specs.declared.names.WindowName.TheVariants.{Window}

-- ---- days

-- the first of some days at which a number is greatest, where one day is the best so far
abbrev pub greatest_from : (ℕ → ℕ) → ℕ → List ℕ → ℕ
greatest_from number best [] = best
greatest_from number best (day ∷ days) =
    greatest_from number (if nat_lt (number best) (number day) then day else best) days

abbrev pub all_days : Capacity → List ℕ
all_days c = range_with_len 0 (date_count c.season)

-- the window of a capacity line at one of its starts on a day, where the line's first window has
-- this number
abbrev pub window_at : Capacity → Rule → ℕ → ℕ → ℕ → ℕ
window_at c rule first start day = first + day * starts_of c.step rule + start

-- ---- where a load is above a limit

-- the word of the lines, a limit and a load of each resource, and what a line says of its resource
pub record Excess : Type 0 where
  pub word : List ℕ
  pub limit : ℕ → ℕ
  pub load : ℕ → ℕ
  pub told : ℕ → List ℕ

abbrev pub is_above : Excess → ℕ → Bool
is_above e r = nat_lt (e.limit r) (e.load r)

abbrev pub excess_at : Excess → ℕ → ℕ
excess_at e r = e.load r - e.limit r

-- the days on which the window at a start is above
abbrev pub days_above : Capacity → Excess → Rule → ℕ → ℕ → List ℕ
days_above c e rule first start =
    filter (λ day. is_above e (window_at c rule first start day)) (all_days c)

-- one line: the first day on which it is so by most, and how many days there are
abbrev pub excess_on : Capacity → Excess → ℕ → Rule → ℕ → ℕ → ℕ → ℕ → List ℕ
excess_on c e line rule first start count day =
    e.word ++ (32 ∷ (name_words c.season (Window line day (start_of c.step rule start))
    ++ (codes " DAYS " ++ (decimal count
    ++ (e.told (window_at c rule first start day) ++ 10 ∷ [])))))

abbrev pub excess_days : Capacity → Excess → ℕ → Rule → ℕ → ℕ → List ℕ → List ℕ
excess_days c e line rule first start [] = []
excess_days c e line rule first start (day ∷ days) =
    excess_on c e line rule first start (suc (length days))
    (greatest_from (λ at. excess_at e (window_at c rule first start at)) day days)

abbrev pub excess_line : Capacity → Excess → ℕ → Rule → ℕ → ℕ → List ℕ
excess_line c e line rule first start =
    excess_days c e line rule first start (days_above c e rule first start)

-- a line for each start of a capacity line, and so for all capacity lines from one on; and last the
-- night quota
abbrev pub rule_excess : Capacity → Excess → ℕ → Rule → ℕ → List ℕ
rule_excess c e line rule first =
    flat_map (excess_line c e line rule first) (range_with_len 0 (starts_of c.step rule))

abbrev pub quota_excess : Excess → Option NightQuota → ℕ → List ℕ
quota_excess e None r = []
quota_excess e (Some night) r =
    if is_above e r then e.word ++ (codes " NIGHT" ++ (e.told r ++ 10 ∷ [])) else []

abbrev pub excess_from : Capacity → Excess → ℕ → List Rule → ℕ → List ℕ
excess_from c e line [] first = quota_excess e c.night first
excess_from c e line (rule ∷ rules) first =
    rule_excess c e line rule first
    ++ excess_from c e (suc line) rules (first + windows_of c rule)

abbrev pub excess_lines : Capacity → Excess → List ℕ
excess_lines c e = excess_from c e 1 c.rules 0

-- ---- the least that the units of a stage use of a resource

abbrev pub unit_load : Declaration → SlotUnit → Times → ℕ → ℕ
unit_load d unit times r = window_load (capacity_of d) (movements_of d.season unit times) r

abbrev pub least_number : List ℕ → ℕ
least_number [] = 0
least_number (n ∷ []) = n
least_number (n ∷ m ∷ numbers) = min n (least_number (m ∷ numbers))

-- over all alternatives of a unit, and the sum over units
abbrev pub least_unit_load : Declaration → SlotUnit → ℕ → ℕ
least_unit_load d unit r =
    least_number (map (λ times. unit_load d unit times r) (options_of d unit))

abbrev pub least_units_load : Declaration → List SlotUnit → ℕ → ℕ
least_units_load d units r = sum_by (λ unit. least_unit_load d unit r) units

-- what earlier stages gave of a resource
abbrev pub earlier_load : Declaration → List UnitState → ℕ → ℕ
earlier_load d states r = window_load (capacity_of d) (movements_given d.season states) r

-- what earlier stages gave of each resource
abbrev pub AreEarlier : Declaration → List UnitState → List ℕ → Type 0
AreEarlier d states loads =
    (r : ℕ) → r < declared_resources (capacity_of d) →
    slice_index loads r ≡ earlier_load d states r

abbrev pub over_told : Declaration → ℕ → List UnitState → ℕ → List ℕ
over_told d stage states r =
    codes " LIMIT " ++ (decimal (stage_limit d stage states r)
    ++ (codes " EARLIER " ++ (decimal (earlier_load d states r)
    ++ (codes " LEAST " ++ decimal (least_units_load d (stage_units stage states) r)))))

-- the windows on which even the least load of a stage is above its limit
abbrev pub stage_excess : Declaration → ℕ → List UnitState → Excess
stage_excess d stage states = record {
  word = codes "OVER";
  limit = stage_limit d stage states;
  load = least_units_load d (stage_units stage states);
  told = over_told d stage states;
}

abbrev pub over_lines : Declaration → ℕ → List UnitState → List ℕ
over_lines d stage states = excess_lines (capacity_of d) (stage_excess d stage states)

-- ---- the requested times of all units together against the declared limits

abbrev pub requested_movements : Declaration → List SlotUnit → List Movement
requested_movements d units =
    flat_map (λ (unit : SlotUnit). movements_of d.season unit (line_times unit.request)) units

abbrev pub requested_load : Declaration → List SlotUnit → ℕ → ℕ
requested_load d units r = window_load (capacity_of d) (requested_movements d units) r

abbrev pub demand_told : Declaration → List SlotUnit → ℕ → List ℕ
demand_told d units r =
    codes " LIMIT " ++ (decimal (window_limit (capacity_of d) r)
    ++ (codes " LOAD " ++ decimal (requested_load d units r)))

abbrev pub demand_excess : Declaration → List SlotUnit → Excess
demand_excess d units = record {
  word = codes "DEMAND";
  limit = window_limit (capacity_of d);
  load = requested_load d units;
  told = demand_told d units;
}

abbrev pub demand_lines : Declaration → List SlotUnit → List ℕ
demand_lines d units = excess_lines (capacity_of d) (demand_excess d units)

-- ---- the profile of a load: the first of a capacity line's days with the greatest load at a start

abbrev pub rule_days : Capacity → Rule → List ℕ
rule_days c rule = filter (is_on c.season rule.days) (all_days c)

abbrev pub profile_on : Capacity → (ℕ → ℕ) → ℕ → Rule → ℕ → ℕ → ℕ → List ℕ
profile_on c load line rule first start day =
    if load (window_at c rule first start day) == 0 then []
    else codes "PROFILE " ++ (decimal line
    ++ (32 ∷ (time_text (start_of c.step rule start)
    ++ (codes " LOAD " ++ (decimal (load (window_at c rule first start day))
    ++ (codes " LIMIT " ++ (decimal rule.limit
    ++ (codes " DATE " ++ (day_text c.season day ++ 10 ∷ [])))))))))

abbrev pub profile_days : Capacity → (ℕ → ℕ) → ℕ → Rule → ℕ → ℕ → List ℕ → List ℕ
profile_days c load line rule first start [] = []
profile_days c load line rule first start (day ∷ days) =
    profile_on c load line rule first start
    (greatest_from (λ at. load (window_at c rule first start at)) day days)

abbrev pub profile_line : Capacity → (ℕ → ℕ) → ℕ → Rule → ℕ → ℕ → List ℕ
profile_line c load line rule first start =
    profile_days c load line rule first start (rule_days c rule)

abbrev pub rule_profile : Capacity → (ℕ → ℕ) → ℕ → Rule → ℕ → List ℕ
rule_profile c load line rule first =
    flat_map (profile_line c load line rule first) (range_with_len 0 (starts_of c.step rule))

abbrev pub quota_profile : (ℕ → ℕ) → Option NightQuota → ℕ → List ℕ
quota_profile load None r = []
quota_profile load (Some night) r =
    codes "PROFILE NIGHT LOAD " ++ (decimal (load r)
    ++ (codes " LIMIT " ++ (decimal night.limit ++ 10 ∷ [])))

abbrev pub profile_from : Capacity → (ℕ → ℕ) → ℕ → List Rule → ℕ → List ℕ
profile_from c load line [] first = quota_profile load c.night first
profile_from c load line (rule ∷ rules) first =
    rule_profile c load line rule first
    ++ profile_from c load (suc line) rules (first + windows_of c rule)

abbrev pub profile_lines : Capacity → (ℕ → ℕ) → List ℕ
profile_lines c load = profile_from c load 1 c.rules 0
