-- What the lines whose words may stand once have stated.
use Rattle.std.specs.Prelude.{◌≡◌, ℕ, List, [], ◌∷◌, ◌++◌, Some, IsSome}
use Rattle.season_days.specs.declared.declaration.Rule.{Rule}
use Rattle.capacity_file.specs.declared.draft.Singles.{Singles}
use Rattle.capacity_file.specs.declared.entry.Entry.{Entry}
use Rattle.capacity_file.specs.declared.entry.Entry.TheVariants.{Airport, Season, Step, Flex, Ground, Share, Refuse, Night, Cap}

-- a line has stated an entry with the same word
abbrev pub HasSingle : Singles → Entry → Type 0
HasSingle s (Airport station) = IsSome s.airport
HasSingle s (Season season) = IsSome s.season
HasSingle s (Step n) = IsSome s.step
HasSingle s (Flex n) = IsSome s.flex
HasSingle s (Ground n) = IsSome s.ground_time
HasSingle s (Share n) = IsSome s.share
HasSingle s (Refuse price) = IsSome s.refuse
HasSingle s (Night night) = IsSome s.night
HasSingle s (Cap rule) = ⊥

-- the entry of the line of this number is kept, and all else stays
abbrev pub Sets : ℕ → Entry → Singles → Singles → Type 0
Sets number (Airport station) old new = new ≡ record old { airport = Some station }
Sets number (Season season) old new = new ≡ record old { season = Some season }
Sets number (Step n) old new = new ≡ record old { step = Some n }
Sets number (Flex n) old new =
    new ≡ record old { flex = Some (record { line = number; minutes = n }) }
Sets number (Ground n) old new = new ≡ record old { ground_time = Some n }
Sets number (Share n) old new = new ≡ record old { share = Some n }
Sets number (Refuse price) old new = new ≡ record old { refuse = Some price }
Sets number (Night night) old new = new ≡ record old { night = Some night }
Sets number (Cap rule) old new = new ≡ old

-- the entry is taken in: a capacity line goes behind the others
abbrev pub AddsEntry : ℕ → Entry → Singles → List Rule → Singles → List Rule → Type 0
AddsEntry number (Cap rule) old before new after = (new ≡ old) × (after ≡ before ++ rule ∷ [])
AddsEntry number entry old before new after = (HasSingle old entry → ⊥)
    × Sets number entry old new × (after ≡ before)
