-- Where markup begins in a text, and that none of it is a script.
use Rattle.std.specs.Prelude.{◌==◌, if◌then◌else◌}
use Rattle.std.proofs.Common.{◌≡◌, ℕ, Bool, true, false, not, ◌&&◌, ◌||◌, List, [], ◌∷◌, ◌++◌, refl, sym, ◌∙◌, arith, inl, inr}
use Rattle.std.proofs.lemmas.Bool.{cases_Bool, eq-eqb, eqb-true, and_parts, or_parts, not-true, and_right, or_from, false_from_ne_true, false≢true}
use Rattle.report_page.specs.Filled.{escaped, number_of, minute_of, word_piece, next_piece, is_stop, told_words, is_word_mark, piece, words_left, filled}
use Rattle.report_page.specs.Laws.{IsPlain, begins_with, has}
use Rattle.report_page.specs.declared.layout.TheConstants.{WORD, NUMBER, MINUTE, WORDS}
use Rattle.report_page.proofs.TextLemmas.{escaped_plain, number_small, minute_small, decimal_plain}

-- ---- texts in which no script begins

abbrev pub is_mark : ℕ → Bool
is_mark b = is_word_mark b || (b == WORDS)

-- what may follow the begin of markup: no marks of a template, and neither `sc` nor a capital S
abbrev pub opens : ℕ → ℕ → Bool
opens a c = (not (is_mark a) && not (is_mark c))
    && (not (a == 83) && not ((a == 115) && ((c == 99) || (c == 67))))

abbrev pub opens_after : List ℕ → Bool
opens_after [] = false
opens_after (a ∷ []) = false
opens_after (a ∷ c ∷ text) = opens a c

abbrev pub is_safe : List ℕ → Bool
is_safe [] = true
is_safe (b ∷ text) = (if b == 60 then opens_after text else true) && is_safe text

-- the same as a fact, for texts that are put together
abbrev pub IsSafe : List ℕ → Type 0
IsSafe [] = Unit {0}
IsSafe (b ∷ text) = (b ≡ 60 → opens_after text ≡ true) × IsSafe text

pub safe_by_test : (text : List ℕ) → is_safe text ≡ true → IsSafe text
safe_by_test [] h = tt
safe_by_test (b ∷ text) h =
    let parts = and_parts (if b == 60 then opens_after text else true) (is_safe text) h in
    (λ e. rw (eq-eqb b 60 e) at parts.0, safe_by_test text parts.1)

opens_after_append : (xs ys : List ℕ) → opens_after xs ≡ true → opens_after (xs ++ ys) ≡ true
opens_after_append [] ys h = absurd (false≢true h)
opens_after_append (a ∷ []) ys h = absurd (false≢true h)
opens_after_append (a ∷ c ∷ xs) ys h = h

pub safe_append : (xs ys : List ℕ) → IsSafe xs → IsSafe ys → IsSafe (xs ++ ys)
safe_append [] ys x y = y
safe_append (b ∷ xs) ys x y = (λ e. opens_after_append xs ys (x.0 e), safe_append xs ys x.1 y)

pub safe_plain : (text : List ℕ) → IsPlain text → IsSafe text
safe_plain [] x = tt
safe_plain (b ∷ text) x = (λ e. absurd (x.2 e), safe_plain text x.6)

-- ---- templates

safe_words : (words : List (List ℕ)) → IsSafe (told_words words)
safe_words [] = tt
safe_words (word ∷ words) =
    elim (cases_Bool (is_stop word)) [
      | inl stop ↦ rw stop tt
      | inr more ↦ rw more (
        λ e. absurd (omega (arith, e)),
        safe_append (escaped word) (told_words words) (safe_plain _ (escaped_plain word)) (safe_words words),
      )
    ]

safe_word : (mark : ℕ) (word : List ℕ) → IsSafe (word_piece mark word)
safe_word mark word =
    elim (cases_Bool (mark == WORD)) [
      | inl is_word ↦ rw is_word (safe_plain _ (escaped_plain word))
      | inr no_word ↦ elim (cases_Bool (mark == NUMBER)) [
        | inl number ↦ rw (no_word, number) (safe_plain _ (decimal_plain (number_of word) (number_small 0 word (omega arith))))
        | inr no_number ↦ elim (cases_Bool (mark == MINUTE)) [
          | inl minute ↦ rw (no_word, no_number, minute) (safe_plain _ (decimal_plain (minute_of word) (minute_small word)))
          | inr no_minute ↦ rw (no_word, no_number, no_minute) tt
        ]
      ]
    ]

safe_next : (mark : ℕ) (words : List (List ℕ)) → IsSafe (next_piece mark words)
safe_next mark [] = tt
safe_next mark (word ∷ words) = safe_word mark word

-- a byte of a template is a mark, or stands for itself
piece_itself : (b : ℕ) (words : List (List ℕ)) → is_mark b ≡ false → piece b words ≡ b ∷ []
piece_itself b words h =
    let parts = or_parts (is_word_mark b) (b == WORDS) h in
    rw (parts.0, parts.1) refl

piece_safe : (b : ℕ) (words : List (List ℕ)) → is_mark b ≡ true → IsSafe (piece b words)
piece_safe b words h =
    elim (cases_Bool (is_word_mark b)) [
      | inl one ↦ rw one (safe_next b words)
      | inr not_one ↦ elim (cases_Bool (b == WORDS)) [
        | inl several ↦ rw (not_one, several) (safe_words words)
        | inr none ↦ absurd (let no : false ≡ true = rw (not_one, none) at h in false≢true no)
      ]
    ]

-- what opens markup in a template opens it in the text
filled_opens : (template : List ℕ) (words : List (List ℕ)) → opens_after template ≡ true → opens_after (filled template words) ≡ true
unfolding filled
filled_opens [] words h = absurd (false≢true h)
filled_opens (a ∷ []) words h = absurd (false≢true h)
filled_opens (a ∷ c ∷ template) words h =
    let marks = and_parts _ _ (and_parts _ _ h).0 in
    let first : is_mark a ≡ false = not-true _ marks.0 in
    let second : is_mark c ≡ false = not-true _ marks.1 in
    rw (piece_itself a words first, piece_itself c (words_left a words) second) h

pub filled_safe : (template : List ℕ) (words : List (List ℕ)) → is_safe template ≡ true → IsSafe (filled template words)
unfolding filled
filled_safe [] words h = tt
filled_safe (b ∷ template) words h =
    let parts = and_parts (if b == 60 then opens_after template else true) (is_safe template) h in
    let rest = filled_safe template (words_left b words) parts.1 in
    elim (cases_Bool (is_mark b)) [
      | inl mark ↦ safe_append (piece b words) _ (piece_safe b words mark) rest
      | inr itself ↦ rw (piece_itself b words itself)
          (λ e. filled_opens template (words_left b words) (rw (eq-eqb b 60 e) at parts.0), rest)
    ]

-- ---- no script

not_here : (b : ℕ) (text : List ℕ) (a c : ℕ) → opens a c ≡ false → (b ≡ 60 → opens_after text ≡ true) → begins_with (60 ∷ a ∷ c ∷ []) (b ∷ text) ≡ false
not_here b [] a c closed x = and_right (60 == b) false refl
not_here b (d ∷ []) a c closed x = and_right (60 == b) ((a == d) && false) (and_right (a == d) false refl)
not_here b (d ∷ f ∷ text) a c closed x =
    false_from_ne_true ((60 == b) && ((a == d) && ((c == f) && true))) (λ h.
    let p = and_parts (60 == b) ((a == d) && ((c == f) && true)) h in
    let q = and_parts (a == d) ((c == f) && true) p.1 in
    let r = and_parts (c == f) true q.1 in
    let same_a : a ≡ d = eqb-true a d q.0 in
    let same_c : c ≡ f = eqb-true c f r.0 in
    let open_there : opens d f ≡ true = x (sym (eqb-true 60 b p.0)) in
    let open_here : opens a c ≡ true = rw (same_a, same_c) open_there in
    false≢true (sym closed ∙ open_here))

-- `<` with two bytes behind it that may not follow stands nowhere
pub safe_has : (text : List ℕ) (a c : ℕ) → opens a c ≡ false → IsSafe text → has (60 ∷ a ∷ c ∷ []) text ≡ false
safe_has [] a c closed x = refl
safe_has (b ∷ text) a c closed x =
    or_from (begins_with (60 ∷ a ∷ c ∷ []) (b ∷ text)) (has (60 ∷ a ∷ c ∷ []) text) (not_here b text a c closed x.0) (safe_has text a c closed x.1)
