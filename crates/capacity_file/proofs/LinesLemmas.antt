-- Lines by their numbers.
use Rattle.std.proofs.Common.{◌≡◌, ◌≢◌, ℕ, zero, suc, ◌<◌, ◌≤◌, List, [], ◌∷◌, length, drop, Option, Some, sym, ap, ◌∙◌, arith, inl, inr}
use Rattle.std.specs.Prelude.{slice_get}
use Rattle.std.proofs.lemmas.Bool.{cases_lt}
use Rattle.std.proofs.lemmas.Option.{same_Some, slice_get_within}
use Rattle.capacity_file.specs.Entries.{word_of}
use Rattle.capacity_file.specs.Lines.{line_at, LineStates, IsStated, IsBad, IsSpoiled, IsClean}
use Rattle.capacity_file.specs.declared.entry.Entry.{Entry}
use Rattle.capacity_file.specs.declared.entry.Word.TheVariants.{Cap as cap_word}
use Rattle.capacity_file.proofs.SameLemmas.{OneValue, states_same, words_same}

-- the lines stand at the numbers from 1 on
pub at_most : (lines : List (List ℕ)) (number : ℕ) (line : List ℕ) → line_at lines number ≡ Some line → number ≤ length lines
at_most lines zero line e = omega arith
at_most lines (suc n) line e = omega (arith, slice_get_within lines n line e)

-- the line after the first so many
pub next_at : (lines : List (List ℕ)) (count : ℕ) (line : List ℕ) (rest : List (List ℕ)) → drop count lines ≡ line ∷ rest → slice_get lines count ≡ Some line
next_at [] zero line rest e = cc
next_at [] (suc count) line rest e = cc
next_at (l ∷ lines) zero line rest e = let same : l ≡ line = cc in ap (λ (t : List ℕ). let o : Option (List ℕ) = Some t in o) same
next_at (l ∷ lines) (suc count) line rest e = next_at lines count line rest e

pub rest_at : (lines : List (List ℕ)) (count : ℕ) (line : List ℕ) (rest : List (List ℕ)) → drop count lines ≡ line ∷ rest → drop (suc count) lines ≡ rest
rest_at [] zero line rest e = cc
rest_at [] (suc count) line rest e = cc
rest_at (l ∷ lines) zero line rest e = cc
rest_at (l ∷ lines) (suc count) line rest e = rest_at lines count line rest e

-- a line states one entry
pub stated_same : (one : OneValue) → (lines : List (List ℕ)) (number : ℕ) (a b : Entry) → LineStates lines number a → LineStates lines number b → a ≡ b
stated_same one lines number a b x y =
    let line : x.line ≡ y.line = same_Some x.line y.line (sym x.stands ∙ y.stands) in
    states_same one y.line a b (rw line at x.states) y.states

-- and one word
pub stated_words : (lines : List (List ℕ)) (number : ℕ) (a b : Entry) → LineStates lines number a → LineStates lines number b → word_of a ≡ word_of b
stated_words lines number a b x y =
    let line : x.line ≡ y.line = same_Some x.line y.line (sym x.stands ∙ y.stands) in
    words_same y.line a b (rw line at x.states) y.states

-- a bad line states nothing
pub bad_states_nothing : (lines : List (List ℕ)) (number : ℕ) (entry : Entry) → IsBad lines number → LineStates lines number entry → ⊥
bad_states_nothing lines number entry bad says =
    let line : says.line ≡ bad.line = same_Some says.line bad.line (sym says.stands ∙ bad.stands) in
    bad.nothing entry (rw line at says.states)

-- two lines with the same word, other than CAP, spoil the text
two_lines : (lines : List (List ℕ)) (m n : ℕ) (a b : Entry) → m < n → LineStates lines m a → LineStates lines n b → word_of a ≡ word_of b → word_of b ≢ cap_word → IsSpoiled lines n
two_lines lines m n a b lt x y same single =
    inr (record { entry = b; other = a; earlier = m; states = y; stated = x; before = lt; same = same; single = single })

pub same_line : (lines : List (List ℕ)) (m n : ℕ) (a b : Entry) → IsClean lines → LineStates lines m a → LineStates lines n b → word_of a ≡ word_of b → word_of b ≢ cap_word → m ≡ n
same_line lines m n a b clean x y same single =
    elim (cases_lt m n) [
      | inl lt ↦ absurd (clean n (two_lines lines m n a b lt x y same single))
      | inr ge ↦ elim (cases_lt n m) [
        | inl lt ↦ absurd (clean m (two_lines lines n m b a lt y x (sym same) (λ e. single (sym same ∙ e))))
        | inr le ↦ omega arith
      ]
    ]

-- so in a clean text a word, other than CAP, is stated once
pub once : (one : OneValue) → (lines : List (List ℕ)) (a b : Entry) → IsClean lines → IsStated lines a → IsStated lines b → word_of a ≡ word_of b → word_of b ≢ cap_word → a ≡ b
once one lines a b clean x y same single =
    let number : x.0 ≡ y.0 = same_line lines x.0 y.0 a b clean x.1 y.1 same single in
    stated_same one lines y.0 a b (rw number at x.1) y.1
