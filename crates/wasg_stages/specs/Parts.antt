-- Parts that stand for the movements of a line's stops at minutes. Contracts of private functions
-- alone cite them.
use Rattle.std.specs.Prelude.{◌≡◌, ℕ, ◌+◌, ◌*◌, ◌/◌, ◌%◌, ◌<◌, ◌≤◌, List, [], length, All, slice_index_or, Some, None}
use Rattle.season_days.specs.declared.day.Period.{Period}
use Rattle.season_days.specs.declared.declaration.Kind.{Kind}
use Rattle.season_days.specs.declared.declaration.Kind.TheVariants.{Arr, Dep}
use Rattle.season_days.specs.declared.declaration.TheConstants.{MINUTES_OF_DAY}
use Rattle.season_days.specs.declared.season.TheConstants.{MOST_DATES}
use Rattle.capacity_windows.specs.Windows.{Capacity, capacity_of, window_load, stop_movements, declared_resources}
use Rattle.choice_problem.specs.declared.strips.Strip.{Strip}
use Rattle.choice_problem.specs.Strips.{part_uses, IsPartInRange}
use Rattle.choice_problem.specs.declared.problems.Alt.{Alt}
use Rattle.choice_problem.specs.Allowed.{UseAtMost, IsNamedAlt}
use Rattle.season_days.specs.declared.declaration.Declaration.{Declaration}
use Rattle.series_model.specs.declared.unit.Unit.{Unit as SlotUnit}
use Rattle.series_model.specs.declared.times.Times.{Times}
use Rattle.series_model.specs.declared.times.Times.TheVariants.{Refused}
use Rattle.wasg_stages.specs.StageProblems.{IsAltOf}
use Rattle.wasg_stages.specs.declared.parts.Minutes.{Minutes}

-- the load of the movements of one kind, so many minutes after the beginning of each date
abbrev pub minute_load : Capacity → Period → Kind → ℕ → ℕ → ℕ
minute_load c period kind minute r =
    window_load c
    (stop_movements c kind (minute % MINUTES_OF_DAY) (minute / MINUTES_OF_DAY) period) r

-- a part that is there, and stands for the movements of the kind at the minute
pub record IsKnown (c : Capacity) (period : Period) (kind : Kind) (parts : List (List Strip))
    (minute number : ℕ) : Type 0 where
  pub there : number < length parts
  pub uses : (r : ℕ) → part_uses (slice_index_or parts number []) r
      ≡ minute_load c period kind minute r

-- each number that is kept at a minute is that of such a part
abbrev pub AreKnown : Capacity → Period → Kind → List (List Strip) → Minutes → Type 0
AreKnown c period kind parts minutes =
    (i k : ℕ) → slice_index_or minutes.parts.items i None ≡ Some k →
    IsKnown c period kind parts (minutes.first + i) k

-- parts that use no resource more often than a season has dates, and stay within the resources
pub record AreParts (c : Capacity) (parts : List (List Strip)) : Type 0 where
  pub few : UseAtMost MOST_DATES parts
  pub range : All (λ strips. IsPartInRange (declared_resources c) strips) parts

-- some parts more, the earlier ones as they were
pub record Grows (old new : List (List Strip)) (more : ℕ) : Type 0 where
  pub longer : length old ≤ length new
  pub few : length new ≤ length old + more
  pub same : (k : ℕ) → k < length old → slice_index_or new k [] ≡ slice_index_or old k []

-- the alternatives made so far, of the first options
pub record AreAlts (d : Declaration) (unit : SlotUnit) (options : List Times)
    (parts : List (List Strip)) (alts : List Alt) (n : ℕ) : Type 0 where
  pub count : length alts ≡ n
  pub each : (k : ℕ) → k < n →
      IsAltOf d unit (record { parts = parts; alts = [] }) (slice_index_or options k Refused)
      (slice_index_or alts k (record { cost = 0; one = None; two = None }))
  pub named : All (IsNamedAlt parts) alts
  pub few : length parts ≤ 2 * n

-- what is known of the parts of a unit
pub record IsTable (d : Declaration) (period : Period) (arrivals departures : Minutes)
    (parts : List (List Strip)) : Type 0 where
  pub arrivals_are : AreKnown (capacity_of d) period Arr parts arrivals
  pub departures_are : AreKnown (capacity_of d) period Dep parts departures
  pub parts_are : AreParts (capacity_of d) parts
