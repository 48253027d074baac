-- A text spells one value, and a line states one entry.
use Rattle.std.proofs.Common.{◌≡◌, ℕ, ◌+◌, ◌/◌, ◌%◌, ◌^◌, ◌<◌, ◌≤◌, eqb, cond, true, List, [], ◌∷◌, ◌++◌, length, get_or, codes, Option, Some, None, refl, sym, ap, ◌∙◌, arith}
use Rattle.std.specs.Fmt.{decimal}
use Rattle.std.proofs.lemmas.Fmt.{decimal_injective, decimal_by_steps}
use Rattle.std.proofs.lemmas.Bool.Decides.{nat_tests}
use Rattle.season_days.specs.Term.{Term}
use Rattle.season_days.specs.Seasons.{season_text, half_letter}
use Rattle.season_days.specs.declared.season.Half.{Half}
use Rattle.season_days.specs.declared.season.Half.TheVariants.{Summer, Winter}
use Rattle.season_days.specs.declared.declaration.Kind.{Kind}
use Rattle.season_days.specs.declared.declaration.Rule.{Rule}
use Rattle.season_days.specs.declared.declaration.Night.{Night}
use Rattle.schedule_text.specs.Days.{IsDays}
use Rattle.schedule_text.specs.Kinds.{kind_text}
use Rattle.schedule_text.specs.Times.{time_text}
use Rattle.capacity_file.specs.Values.{is_step, IsRefusalPrice, price_text}
use Rattle.capacity_file.specs.Words.{word_text}
use Rattle.capacity_file.specs.Entries.{word_of, IsAllowedEntry, AreValues, IsEmpty, States}
use Rattle.capacity_file.specs.declared.entry.Entry.{Entry}
use Rattle.capacity_file.specs.declared.entry.Entry.TheVariants.{Airport, Season, Step, Flex, Ground, Share, Refuse, Night as night_entry, Cap}
use Rattle.capacity_file.specs.declared.entry.Word.{Word}
use Rattle.capacity_file.specs.declared.entry.Word.TheVariants.{Airport as airport_word, Season as season_word, Step as step_word, Flex as flex_word, Ground as ground_word, Share as share_word, Refuse as refuse_word, Night as night_word, Cap as cap_word}

-- the law of the spellings: a text names one time of the day, one set of weekdays and one kind of
-- movements
pub record OneValue : Type 0 where
  pub time : (a b : ℕ) → a < 1440 → b < 1440 → time_text a ≡ time_text b → a ≡ b
  pub days : (text : List ℕ) (a b : ℕ) → IsDays text a → IsDays text b → a ≡ b
  pub kind : (a b : Kind) → kind_text a ≡ kind_text b → a ≡ b

-- ---- words

-- a word by its first byte, and its length where it begins with S
abbrev word_from : List ℕ → Word
word_from text =
    let first = get_or text 0 0 in
    cond (eqb first 65) airport_word (cond (eqb first 70) flex_word (cond (eqb first 71) ground_word (cond (eqb first 82) refuse_word (cond (eqb first 78) night_word (cond (eqb first 67) cap_word
    (cond (eqb (length text) 6) season_word (cond (eqb (length text) 4) step_word share_word)))))))

word_again : (word : Word) → word_from (word_text word) ≡ word
word_again airport_word = refl
word_again season_word = refl
word_again step_word = refl
word_again flex_word = refl
word_again ground_word = refl
word_again share_word = refl
word_again refuse_word = refl
word_again night_word = refl
word_again cap_word = refl

pub word_same : (a b : Word) → word_text a ≡ word_text b → a ≡ b
word_same a b e = sym (word_again a) ∙ ap word_from e ∙ word_again b

-- ---- values

half_same : (a b : Half) → half_letter a ≡ half_letter b → a ≡ b
half_same Summer Summer e = refl
half_same Summer Winter e = absurd (omega arith)
half_same Winter Summer e = absurd (omega arith)
half_same Winter Winter e = refl

season_same : (a b : Term) → a.year < 100 → b.year < 100 → season_text a ≡ season_text b → a ≡ b
season_same a b x y e =
    let half : a.half ≡ b.half = half_same a.half b.half (ap (λ (l : List ℕ). get_or l 0 0) e) in
    let tens : 48 + a.year / 10 ≡ 48 + b.year / 10 = ap (λ (l : List ℕ). get_or l 1 0) e in
    let ones : 48 + a.year % 10 ≡ 48 + b.year % 10 = ap (λ (l : List ℕ). get_or l 2 0) e in
    let year : a.year ≡ b.year = omega arith in
    let first : a ≡ record { half = b.half; year = a.year } = ap (λ (h : Half). let t : Term = record { half = h; year = a.year } in t) half in
    first ∙ ap (λ (n : ℕ). let t : Term = record { half = b.half; year = n } in t) year

-- a number begins with a digit
abbrev BeginsWithDigit : List ℕ → Type 0
BeginsWithDigit [] = Unit {0}
BeginsWithDigit (b ∷ text) = b ≤ 57

digit_more : (text : List ℕ) (b : ℕ) → b ≤ 57 → BeginsWithDigit text → BeginsWithDigit (text ++ b ∷ [])
digit_more [] b le x = le
digit_more (a ∷ text) b le x = x

begins_decimal : (n : ℕ) → n < 2 ^ 64 → BeginsWithDigit (decimal n)
begins_decimal n lt = decimal_by_steps (λ k text. BeginsWithDigit text) (λ k small. omega arith) (λ k text ge x. digit_more text (48 + k % 10) (omega arith) x) n lt

none_no_number : (text : List ℕ) → text ≡ codes "NONE" → BeginsWithDigit text → ⊥
none_no_number [] e x = cc
none_no_number (b ∷ text) e x = let first : b ≡ 78 = ap (λ (l : List ℕ). get_or l 0 0) e in omega (arith, x)

number_same : (a b : ℕ) → a < 2 ^ 64 → b < 2 ^ 64 → decimal a ≡ decimal b → a ≡ b
number_same a b x y e = decimal_injective a b x y e

price_same : (a b : Option ℕ) → ((n : ℕ) → a ≡ Some n → IsRefusalPrice n) → ((n : ℕ) → b ≡ Some n → IsRefusalPrice n) → price_text a ≡ price_text b → a ≡ b
price_same None None x y e = refl
price_same None (Some n) x y e = absurd (none_no_number (decimal n) (sym e) (begins_decimal n (omega (arith, (y n refl).1))))
price_same (Some n) None x y e = absurd (none_no_number (decimal n) e (begins_decimal n (omega (arith, (x n refl).1))))
price_same (Some m) (Some n) x y e = ap (λ (k : ℕ). let o : Option ℕ = Some k in o) (number_same m n (omega (arith, (x m refl).1)) (omega (arith, (y n refl).1)) e)

step_small : (n : ℕ) → is_step n ≡ true → n ≤ 60
step_small n is = grind (arith, nat_tests, is)

-- ---- entries

-- the first, the second and so on of some fields
abbrev field_of : ℕ → List (List ℕ) → List ℕ
field_of k fields = get_or fields k []

abbrev night_of : ℕ → ℕ → ℕ → Night
night_of from to limit = record { from = from; to = to; limit = limit }

abbrev rule_of : Kind → ℕ → ℕ → ℕ → ℕ → ℕ → Rule
rule_of kind length from to days limit = record { kind = kind; length = length; from = from; to = to; days = days; limit = limit }

night_same : (a b : Night) → a.from ≡ b.from → a.to ≡ b.to → a.limit ≡ b.limit → a ≡ b
night_same a b f t l =
    let same : night_of a.from a.to a.limit ≡ night_of b.from b.to b.limit = rw (f, t, l) refl in same

rule_same : (a b : Rule) → a.kind ≡ b.kind → a.length ≡ b.length → a.from ≡ b.from → a.to ≡ b.to → a.days ≡ b.days → a.limit ≡ b.limit → a ≡ b
rule_same a b k n f t d l =
    let same : rule_of a.kind a.length a.from a.to a.days a.limit ≡ rule_of b.kind b.length b.from b.to b.days b.limit = rw (k, n, f, t, d, l) refl in same

one_same : (x y : List ℕ) (fields : List (List ℕ)) → fields ≡ x ∷ [] → fields ≡ y ∷ [] → x ≡ y
one_same x y fields e f = cc

pub entry_same : (one : OneValue) → (a b : Entry) (fields : List (List ℕ)) → word_of a ≡ word_of b → IsAllowedEntry a → IsAllowedEntry b → AreValues a fields → AreValues b fields → a ≡ b
entry_same one (Airport a) (Airport b) fields w x y e f = ap (λ (l : List ℕ). Airport (record { 0 = l })) (one_same a.0 b.0 fields e f)
entry_same one (Season a) (Season b) fields w x y e f = ap (λ (t : Term). Season t) (season_same a b x y (one_same _ _ fields e f))
entry_same one (Step a) (Step b) fields w x y e f = ap (λ (n : ℕ). Step n) (number_same a b (omega (arith, step_small a x)) (omega (arith, step_small b y)) (one_same _ _ fields e f))
entry_same one (Flex a) (Flex b) fields w x y e f = ap (λ (n : ℕ). Flex n) (number_same a b x y (one_same _ _ fields e f))
entry_same one (Ground a) (Ground b) fields w x y e f = ap (λ (n : ℕ). Ground n) (number_same a b (omega (arith, x)) (omega (arith, y)) (one_same _ _ fields e f))
entry_same one (Share a) (Share b) fields w x y e f = ap (λ (n : ℕ). Share n) (number_same a b (omega (arith, x)) (omega (arith, y)) (one_same _ _ fields e f))
entry_same one (Refuse a) (Refuse b) fields w x y e f = ap (λ (p : Option ℕ). Refuse p) (price_same a b x y (one_same _ _ fields e f))
entry_same one (night_entry a) (night_entry b) fields w x y e f =
    let from : time_text a.from ≡ time_text b.from = cc in
    let to : time_text a.to ≡ time_text b.to = cc in
    let limit : decimal a.limit ≡ decimal b.limit = cc in
    ap (λ (n : Night). night_entry n)
    (night_same a b (one.time a.from b.from x.from y.from from) (one.time a.to b.to x.to y.to to) (number_same a.limit b.limit (omega (arith, x.limit)) (omega (arith, y.limit)) limit))
entry_same one (Cap a) (Cap b) fields w x y e f =
    let same = sym e.2 ∙ f.2 in
    let kind : kind_text a.kind ≡ kind_text b.kind = ap (field_of 0) same in
    let minutes : decimal a.length ≡ decimal b.length = ap (field_of 1) same in
    let from : time_text a.from ≡ time_text b.from = ap (field_of 2) same in
    let to : time_text a.to ≡ time_text b.to = ap (field_of 3) same in
    let days : e.0 ≡ f.0 = ap (field_of 4) same in
    let limit : decimal a.limit ≡ decimal b.limit = ap (field_of 5) same in
    ap (λ (r : Rule). Cap r)
    (rule_same a b (one.kind a.kind b.kind kind) (number_same a.length b.length (omega (arith, x.at_most_a_day)) (omega (arith, y.at_most_a_day)) minutes)
    (one.time a.from b.from (omega (arith, x.ordered, x.in_day)) (omega (arith, y.ordered, y.in_day)) from) (one.time a.to b.to x.in_day y.in_day to)
    (one.days e.0 a.days b.days e.1 (rw days f.1)) (number_same a.limit b.limit (omega (arith, x.limit)) (omega (arith, y.limit)) limit))
entry_same one a b fields w x y e f = absurd (cc)

-- ---- lines

pub words_same : (line : List ℕ) (a b : Entry) → States line a → States line b → word_of a ≡ word_of b
words_same line a b x y =
    let whole : word_text (word_of a) ∷ x.values ≡ word_text (word_of b) ∷ y.values = sym x.fields ∙ y.fields in
    let word : word_text (word_of a) ≡ word_text (word_of b) = cc in
    word_same (word_of a) (word_of b) word

pub states_same : (one : OneValue) → (line : List ℕ) (a b : Entry) → States line a → States line b → a ≡ b
states_same one line a b x y =
    let whole : word_text (word_of a) ∷ x.values ≡ word_text (word_of b) ∷ y.values = sym x.fields ∙ y.fields in
    let word : word_text (word_of a) ≡ word_text (word_of b) = cc in
    let values : x.values ≡ y.values = cc in
    entry_same one a b y.values (word_same (word_of a) (word_of b) word) x.allowed y.allowed (rw values at x.spelled) y.spelled

pub empty_states_nothing : (line : List ℕ) (entry : Entry) → IsEmpty line → States line entry → ⊥
empty_states_nothing line entry empty states =
    let e : [] ≡ word_text (word_of entry) ∷ states.values = sym empty ∙ states.fields in cc
