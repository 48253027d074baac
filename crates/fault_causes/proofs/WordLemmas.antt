-- The words of lines, told apart by their letters.
use Rattle.std.proofs.Common.{◌≡◌, ℕ, ◌+◌, ◌*◌, ◌%◌, List, [], ◌∷◌, refl, sym, ap, ◌∙◌}
use Rattle.std.specs.Prelude.{slice_index_or}
use Rattle.fault_causes.specs.Causes.{line_word_text}
use Rattle.fault_causes.specs.declared.cause.LineWord.{LineWord}
use Rattle.fault_causes.specs.declared.cause.LineWord.TheVariants as words

-- the second and the third letter tell the words apart
abbrev pub word_key : List ℕ → ℕ
word_key text = (slice_index_or text 1 0 + 5 * slice_index_or text 2 0) % 13

abbrev pub word_of_key : ℕ → LineWord
word_of_key k =
    slice_index_or
    (words.Step ∷ words.Cap ∷ words.Airport ∷ words.Refuse ∷ words.Season ∷ words.Flex ∷ words.Cap ∷ words.Share ∷ words.Cap ∷ words.Ground ∷ words.Cap ∷ words.Cap ∷ words.Night ∷ [])
    k words.Cap

pub word_again : (word : LineWord) → word_of_key (word_key (line_word_text word)) ≡ word
word_again words.Airport = refl
word_again words.Season = refl
word_again words.Step = refl
word_again words.Flex = refl
word_again words.Ground = refl
word_again words.Share = refl
word_again words.Refuse = refl
word_again words.Night = refl
word_again words.Cap = refl

-- a text that is not the word of its key is none
pub no_word : (text : List ℕ) → (text ≡ line_word_text (word_of_key (word_key text)) → ⊥) → (word : LineWord) → text ≡ line_word_text word → ⊥
no_word text none word e =
    let own : word_of_key (word_key text) ≡ word = ap (λ (t : List ℕ). word_of_key (word_key t)) e ∙ word_again word in
    none (e ∙ ap line_word_text (sym own))
