-- The values that no declaration lacks.
use Rattle.std.specs.Prelude.{◌≡◌, Some, None, IsSome}
use Rattle.capacity_file.specs.declared.draft.Singles.{Singles}
use Rattle.capacity_file.specs.declared.finish.Needed.{Needed}
use Rattle.capacity_file.specs.declared.fault.CapWord.{CapWord}
use Rattle.capacity_file.specs.declared.fault.CapWord.TheVariants.{Airport, Season, Step, Flex, Ground, Refuse}

pub record AreNeeded (s : Singles) (n : Needed) : Type 0 where
  pub airport : s.airport ≡ Some n.airport
  pub season : s.season ≡ Some n.season
  pub step : s.step ≡ Some n.step
  pub flex : s.flex ≡ Some n.flex
  pub ground_time : s.ground_time ≡ Some n.ground_time
  pub refuse : s.refuse ≡ Some n.refuse

-- the word is the first that is missing
abbrev pub IsFirstMissing : Singles → CapWord → Type 0
IsFirstMissing s Airport = s.airport ≡ None
IsFirstMissing s Season = IsSome s.airport × (s.season ≡ None)
IsFirstMissing s Step = IsSome s.airport × IsSome s.season × (s.step ≡ None)
IsFirstMissing s Flex = IsSome s.airport × IsSome s.season × IsSome s.step × (s.flex ≡ None)
IsFirstMissing s Ground = IsSome s.airport × IsSome s.season × IsSome s.step × IsSome s.flex
    × (s.ground_time ≡ None)
IsFirstMissing s Refuse = IsSome s.airport × IsSome s.season × IsSome s.step × IsSome s.flex
    × IsSome s.ground_time × (s.refuse ≡ None)
