-- The declaration that a capacity file makes.
use Rattle.std.specs.Prelude.{◌≡◌, ◌⊎◌, ℕ, ◌%◌, ◌<◌, ◌≤◌, true, List, [], ◌∷◌, length, All, MatchOption}
use Rattle.std.specs.Option.{ForSome}
use Rattle.slot_text.specs.Lines.{lines_of}
use Rattle.slot_text.specs.Stations.{IsStation}
use Rattle.season_days.specs.Capacity.{capacity_of, declared_resources}
use Rattle.season_days.specs.declared.declaration.Declaration.{Declaration}
use Rattle.season_days.specs.declared.declaration.Rule.{Rule}
use Rattle.season_days.specs.declared.declaration.TheConstants.{MINUTES_OF_DAY, MOST_RULES, MOST_WINDOWS, HIGHEST_SHARE}
use Rattle.capacity_file.specs.Values.{is_step, IsRefusalPrice, IsNight, IsCapacityLine}
use Rattle.capacity_file.specs.Entries.{States}
use Rattle.capacity_file.specs.Lines.{IsStated, LacksWord, IsClean}
use Rattle.capacity_file.specs.declared.limits.TheConstants.{MOST_FLEX, USUAL_SHARE}
use Rattle.capacity_file.specs.declared.entry.Entry.TheVariants.{Airport, Season, Step, Flex, Ground, Share, Refuse, Night, Cap}
use Rattle.capacity_file.specs.declared.entry.Word.TheVariants.{Share as share_word, Night as night_word}

-- the capacity lines, in their order
abbrev pub AreRules : List (List ℕ) → List Rule → Type 0
AreRules [] rules = rules ≡ []
AreRules (line ∷ lines) rules =
    ((rule : Rule) × (others : List Rule) × States line (Cap rule) × (rules ≡ rule ∷ others)
    × AreRules lines others)
    ⊎ (((rule : Rule) → States line (Cap rule) → ⊥) × AreRules lines rules)

-- each value is stated on some line. Where no line states the share it is the usual one, and where
-- none states a night there is no quota
pub record Declares (lines : List (List ℕ)) (d : Declaration) : Type 0 where
  pub airport : IsStated lines (Airport d.airport)
  pub season : IsStated lines (Season d.season)
  pub step : IsStated lines (Step d.step)
  pub flex : IsStated lines (Flex d.flex)
  pub ground_time : IsStated lines (Ground d.ground)
  pub share : IsStated lines (Share d.share)
      ⊎ (LacksWord lines share_word × (d.share ≡ USUAL_SHARE))
  pub refuse : IsStated lines (Refuse d.refuse)
  pub night : MatchOption d.night (LacksWord lines night_word)
      (λ night. IsStated lines (Night night))
  pub rules : AreRules lines d.rules

-- the flexibility is a whole number of steps
abbrev pub IsWholeSteps : Declaration → Type 0
IsWholeSteps d = d.flex % d.step ≡ 0

-- the limits of a declaration as a whole: minutes of flexibility, capacity lines, and windows
pub record AreWithinLimits (minutes lines resources : ℕ) : Type 0 where
  pub flex : minutes ≤ MOST_FLEX
  pub caps : lines ≤ MOST_RULES
  pub windows : resources ≤ MOST_WINDOWS

abbrev pub IsWithinLimits : Declaration → Type 0
IsWithinLimits d = AreWithinLimits d.flex (length d.rules) (declared_resources (capacity_of d))

-- the lines make this declaration
pub record LinesDeclare (lines : List (List ℕ)) (d : Declaration) : Type 0 where
  pub clean : IsClean lines
  pub declares : Declares lines d
  pub even : IsWholeSteps d
  pub limits : IsWithinLimits d

-- the text is a capacity file, and declares this
abbrev pub IsCapacityFile : List ℕ → Declaration → Type 0
IsCapacityFile text d = LinesDeclare (lines_of text) d

-- the values that a declaration has
pub record HasAllowedValues (d : Declaration) : Type 0 where
  pub airport : IsStation d.airport.0
  pub season : d.season.year < 100
  pub step : is_step d.step ≡ true
  pub even : d.flex % d.step ≡ 0
  pub flex : d.flex ≤ MOST_FLEX
  pub ground_time : d.ground ≤ MINUTES_OF_DAY
  pub share : d.share ≤ HIGHEST_SHARE
  pub refuse : ForSome d.refuse IsRefusalPrice
  pub night : ForSome d.night IsNight
  pub rules : All IsCapacityLine d.rules
