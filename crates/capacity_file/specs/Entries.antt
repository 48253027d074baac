-- What a line of a capacity file states: an entry, with its values and their spelling.
use Rattle.std.specs.Prelude.{◌≡◌, ℕ, ◌^◌, ◌<◌, ◌≤◌, true, List, [], ◌∷◌, length}
use Rattle.std.specs.Option.{ForSome}
use Rattle.std.specs.Fmt.{decimal}
use Rattle.slot_text.specs.Fields.{fields_of, IsTrimmed}
use Rattle.slot_text.specs.Stations.{IsStation}
use Rattle.slot_text.specs.declared.lines.TheConstants.{LONGEST_LINE}
use Rattle.season_days.specs.Seasons.{season_text}
use Rattle.season_days.specs.declared.declaration.TheConstants.{MINUTES_OF_DAY, HIGHEST_SHARE}
use Rattle.schedule_text.specs.Days.{IsDays}
use Rattle.schedule_text.specs.Kinds.{kind_text}
use Rattle.schedule_text.specs.Times.{time_text}
use Rattle.capacity_file.specs.Values.{is_step, IsRefusalPrice, IsNight, IsCapacityLine, price_text}
use Rattle.capacity_file.specs.Words.{word_text}
use Rattle.capacity_file.specs.declared.entry.Entry.{Entry}
use Rattle.capacity_file.specs.declared.entry.Entry.TheVariants.{Airport, Season, Step, Flex, Ground, Share, Refuse, Night, Cap}
use Rattle.capacity_file.specs.declared.entry.Word.{Word}
use Rattle.capacity_file.specs.declared.entry.Word.TheVariants.{Airport as airport_word, Season as season_word, Step as step_word, Flex as flex_word, Ground as ground_word, Share as share_word, Refuse as refuse_word, Night as night_word, Cap as cap_word}

abbrev pub word_of : Entry → Word
word_of (Airport station) = airport_word
word_of (Season season) = season_word
word_of (Step n) = step_word
word_of (Flex n) = flex_word
word_of (Ground n) = ground_word
word_of (Share n) = share_word
word_of (Refuse price) = refuse_word
word_of (Night night) = night_word
word_of (Cap rule) = cap_word

-- the values that a line may state. Whether a FLEX is a multiple of the STEP, and small, no line
-- shows by itself
abbrev pub IsAllowedEntry : Entry → Type 0
IsAllowedEntry (Airport station) = IsStation station.0
IsAllowedEntry (Season season) = season.year < 100
IsAllowedEntry (Step n) = is_step n ≡ true
IsAllowedEntry (Flex n) = n < 2 ^ 64
IsAllowedEntry (Ground n) = n ≤ MINUTES_OF_DAY
IsAllowedEntry (Share n) = n ≤ HIGHEST_SHARE
IsAllowedEntry (Refuse price) = ForSome price IsRefusalPrice
IsAllowedEntry (Night night) = IsNight night
IsAllowedEntry (Cap rule) = IsCapacityLine rule

-- the fields behind the word spell these values
abbrev pub AreValues : Entry → List (List ℕ) → Type 0
AreValues (Airport station) fields = fields ≡ station.0 ∷ []
AreValues (Season season) fields = fields ≡ season_text season ∷ []
AreValues (Step n) fields = fields ≡ decimal n ∷ []
AreValues (Flex n) fields = fields ≡ decimal n ∷ []
AreValues (Ground n) fields = fields ≡ decimal n ∷ []
AreValues (Share n) fields = fields ≡ decimal n ∷ []
AreValues (Refuse price) fields = fields ≡ price_text price ∷ []
AreValues (Night night) fields = fields ≡ time_text night.from ∷ time_text night.to
    ∷ decimal night.limit ∷ []
AreValues (Cap rule) fields =
    (days : List ℕ) × IsDays days rule.days
    × (fields ≡ kind_text rule.kind ∷ decimal rule.length ∷ time_text rule.from
    ∷ time_text rule.to ∷ days ∷ decimal rule.limit ∷ [])

-- ---- lines

-- no byte but blanks
abbrev pub IsEmpty : List ℕ → Type 0
IsEmpty line = fields_of line ≡ []

-- the line states the entry: its word, and the values in its fields
pub record States (line : List ℕ) (entry : Entry) : Type 0 where
  pub short : length line ≤ LONGEST_LINE
  pub trimmed : IsTrimmed line
  pub values : List (List ℕ)
  pub fields : fields_of line ≡ word_text (word_of entry) ∷ values
  pub allowed : IsAllowedEntry entry
  pub spelled : AreValues entry values
