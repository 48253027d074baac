-- What holds of each page.
use Rattle.std.specs.Prelude.{◌≢◌, ℕ, ◌+◌, ◌*◌, ◌≤◌, ◌==◌, Bool, true, false, ◌&&◌, ◌||◌, if◌then◌else◌, List, [], ◌∷◌, length, codes}
use Rattle.slot_text.specs.Fields.{fields_of}
use Rattle.report_page.specs.Filled.{word_is}

-- printed ASCII without the bytes of markup; an ampersand may begin an entity
abbrev pub IsPlain : List ℕ → Type 0
IsPlain [] = Unit {0}
IsPlain (b ∷ text) = (32 ≤ b) × (b ≤ 126) × (b ≢ 60) × (b ≢ 62) × (b ≢ 34) × (b ≢ 39) × IsPlain text

-- the text begins with the word
abbrev pub begins_with : List ℕ → List ℕ → Bool
begins_with [] text = true
begins_with (w ∷ word) [] = false
begins_with (w ∷ word) (b ∷ text) = (w == b) && begins_with word text

-- the word stands somewhere in the text
abbrev pub has : List ℕ → List ℕ → Bool
has word [] = false
has word (b ∷ text) = begins_with word (b ∷ text) || has word text

-- ---- how long a page may be

-- what a template may have, and a word of a line in it: a byte is shown by six at most, and a number
-- by twenty
abbrev pub MOST_TEMPLATE : ℕ
MOST_TEMPLATE = 300

abbrev pub word_share : List ℕ → ℕ
word_share word = 6 * length word + 20

abbrev pub words_share : List (List ℕ) → ℕ
words_share [] = 0
words_share (word ∷ words) = word_share word + words_share words

-- what one pass over lines may give
abbrev pub line_share : List ℕ → ℕ
line_share line = MOST_TEMPLATE + words_share (fields_of line)

abbrev pub pass_share : List (List ℕ) → ℕ
pass_share [] = 0
pass_share (line ∷ lines) = line_share line + pass_share lines

-- how many lines declare a capacity
abbrev pub capacity_count : List (List ℕ) → ℕ
capacity_count [] = 0
capacity_count (line ∷ lines) =
    (if word_is 1 (codes "CAPACITY") (fields_of line) then 1 else 0) + capacity_count lines

-- the fixed texts, ten passes, and three more for each capacity line
abbrev pub most_page : List (List ℕ) → ℕ
most_page lines =
    5000 + 10 * pass_share lines + capacity_count lines * (3 * pass_share lines + 600)
