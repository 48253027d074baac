-- Templates, and what they are filled with: the words of a line of a report.
use Rattle.std.specs.Prelude.{ℕ, ◌+◌, ◌-◌, ◌*◌, ◌/◌, ◌%◌, ◌^◌, ◌==◌, nat_le, Bool, ◌||◌, ◌&&◌, if◌then◌else◌, List, [], ◌∷◌, ◌++◌, Option, Some, None, codes}
use Rattle.std.specs.List.{flat_map}
use Rattle.std.specs.Fmt.{decimal}
use Rattle.std.specs.Str.{bytes_eq}
use Rattle.slot_text.specs.Fields.{field_at}
use Rattle.report_page.specs.declared.layout.TheConstants.{WORD, NUMBER, MINUTE, PASSED, WORDS}

-- ---- text of a report in a page

-- a byte that markup uses has its entity; a byte that is not printed ASCII is shown as `?`
abbrev pub shown_byte : ℕ → List ℕ
shown_byte b =
    if b == 38 then codes "&amp;"
    else (if b == 60 then codes "&lt;"
    else (if b == 62 then codes "&gt;"
    else (if b == 34 then codes "&quot;"
    else (if b == 39 then codes "&#39;"
    else (if nat_le 32 b && nat_le b 126 then b ∷ [] else codes "?")))))

abbrev pub escaped : List ℕ → List ℕ
escaped text = flat_map shown_byte text

-- ---- words

-- the word of a number, counted from 1; where the line has none, no byte
abbrev pub word_or_none : Option (List ℕ) → List ℕ
word_or_none None = []
word_or_none (Some word) = word

abbrev pub word_at : ℕ → List (List ℕ) → List ℕ
word_at n words = word_or_none (field_at words n)

abbrev pub word_is : ℕ → List ℕ → List (List ℕ) → Bool
word_is n word words = bytes_eq (word_at n words) word

-- the number that digits spell, modulo 2^64
abbrev pub next_number : ℕ → ℕ → ℕ
next_number number digit = (number * 10 + (digit - 48)) % 2 ^ 64

abbrev pub number_from : ℕ → List ℕ → ℕ
number_from number [] = number
number_from number (digit ∷ digits) = number_from (next_number number digit) digits

abbrev pub number_of : List ℕ → ℕ
number_of word = number_from 0 word

-- hours and minutes, as a minute of the day
abbrev pub minute_of : List ℕ → ℕ
minute_of word = number_of word / 100 * 60 + number_of word % 100

-- ---- what stands for a byte of a template

-- of one word: its text, its number, its minute of the day, or nothing
abbrev pub word_piece : ℕ → List ℕ → List ℕ
word_piece mark word =
    if mark == WORD then escaped word
    else (if mark == NUMBER then decimal (number_of word)
    else (if mark == MINUTE then decimal (minute_of word) else []))

abbrev pub next_piece : ℕ → List (List ℕ) → List ℕ
next_piece mark [] = []
next_piece mark (word ∷ words) = word_piece mark word

abbrev pub after_next : List (List ℕ) → List (List ℕ)
after_next [] = []
after_next (word ∷ words) = words

-- of several words: those before UNITS or LIMIT, each with a blank before it
abbrev pub is_stop : List ℕ → Bool
is_stop word = bytes_eq word (codes "UNITS") || bytes_eq word (codes "LIMIT")

abbrev pub told_words : List (List ℕ) → List ℕ
told_words [] = []
told_words (word ∷ words) =
    if is_stop word then [] else 32 ∷ (escaped word ++ told_words words)

abbrev pub after_told : List (List ℕ) → List (List ℕ)
after_told [] = []
after_told (word ∷ words) = if is_stop word then word ∷ words else after_told words

abbrev pub is_word_mark : ℕ → Bool
is_word_mark byte = (byte == WORD) || (byte == NUMBER) || (byte == MINUTE) || (byte == PASSED)

-- a mark tells words; each other byte stands for itself
abbrev pub piece : ℕ → List (List ℕ) → List ℕ
piece byte words =
    if is_word_mark byte then next_piece byte words
    else (if byte == WORDS then told_words words else byte ∷ [])

-- the words that the rest of the template has
abbrev pub words_left : ℕ → List (List ℕ) → List (List ℕ)
words_left byte words =
    if is_word_mark byte then after_next words
    else (if byte == WORDS then after_told words else words)

-- the template, its marks filled with the words in their order
unfoldable pub filled : List ℕ → List (List ℕ) → List ℕ
filled [] words = []
filled (byte ∷ template) words =
    piece byte words ++ filled template (words_left byte words)
