-- The first lines of a report: what was declared.
use Rattle.std.specs.Prelude.{ℕ, suc, List, [], ◌∷◌, ◌++◌, Option, Some, None, codes}
use Rattle.std.specs.Fmt.{decimal}
use Rattle.schedule_text.specs.Times.{time_text}
use Rattle.schedule_text.specs.Kinds.{kind_text}
use Rattle.schedule_text.specs.Days.{days_text}
use Rattle.season_days.specs.Seasons.{season_text}
use Rattle.season_days.specs.declared.declaration.Declaration.{Declaration}
use Rattle.season_days.specs.declared.declaration.Rule.{Rule}
use Rattle.season_days.specs.declared.declaration.Night.{Night}

-- ---- the declaration

abbrev pub title_line : List ℕ
title_line = codes "REPORT 1\n"

abbrev pub season_line : Declaration → List ℕ
season_line d =
    codes "AIRPORT " ++ (d.airport.0 ++ (codes " SEASON " ++ (season_text d.season ++ 10 ∷ [])))

abbrev pub price_word : Option ℕ → List ℕ
price_word None = codes "NONE"
price_word (Some price) = decimal price

abbrev pub rules_line : Declaration → List ℕ
rules_line d =
    codes "RULES STEP " ++ (decimal d.step
    ++ (codes " FLEX " ++ (decimal d.flex
    ++ (codes " GROUND " ++ (decimal d.ground
    ++ (codes " SHARE " ++ (decimal d.share
    ++ (codes " REFUSE " ++ (price_word d.refuse ++ 10 ∷ [])))))))))

-- ---- its capacity, line by line, and the night quota

abbrev pub capacity_line : ℕ → Rule → List ℕ
capacity_line line rule =
    codes "CAPACITY " ++ (decimal line
    ++ (32 ∷ (kind_text rule.kind
    ++ (32 ∷ (decimal rule.length
    ++ (32 ∷ (time_text rule.from
    ++ (32 ∷ (time_text rule.to
    ++ (32 ∷ (days_text rule.days ++ (32 ∷ (decimal rule.limit ++ 10 ∷ [])))))))))))))

abbrev pub capacity_lines : ℕ → List Rule → List ℕ
capacity_lines line [] = []
capacity_lines line (rule ∷ rules) = capacity_line line rule ++ capacity_lines (suc line) rules

abbrev pub night_line : Option Night → List ℕ
night_line None = []
night_line (Some night) =
    codes "NIGHT " ++ (time_text night.from
    ++ (32 ∷ (time_text night.to ++ (32 ∷ (decimal night.limit ++ 10 ∷ [])))))

abbrev pub head_text : Declaration → List ℕ
head_text d =
    title_line
    ++ (season_line d
    ++ (rules_line d ++ (capacity_lines 1 d.rules ++ night_line d.night)))
