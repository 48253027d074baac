-- Where a line and a word end.
use Rattle.std.proofs.Common.{◌≡◌, ℕ, zero, suc, ◌+◌, ◌-◌, ◌<◌, eqb, List, [], ◌∷◌, length, get_or, take, drop, refl, sym, ap, ◌∙◌, arith, add-one, take_all, length-drop, inl, inr}
use Rattle.std.proofs.lemmas.Bool.{cases_Bool, eq-eqb, ne_eqb}
use Rattle.cert_format.specs.Lines.{Word}
use Rattle.cert_format.specs.Private.Cuts.{onto_line, cert_lines_of, line_words}

-- the byte doesn't stand below this place
abbrev pub NoneBelow : ℕ → ℕ → List ℕ → Type 0
NoneBelow byte i bytes = (k : ℕ) → k < i → get_or bytes k 0 ≡ byte → ⊥

later : (byte i b : ℕ) (bytes : List ℕ) → NoneBelow byte (suc i) (b ∷ bytes) → NoneBelow byte i bytes
later byte i b bytes none k lt e = none (suc k) (omega arith) e

pub line_ends : (bytes : List ℕ) (i : ℕ) → i < length bytes → get_or bytes i 0 ≡ 10 → NoneBelow 10 i bytes → cert_lines_of bytes ≡ line_words (take i bytes) ∷ cert_lines_of (drop (suc i) bytes)
unfolding cert_lines_of line_words
line_ends [] i lt e none = absurd (omega arith)
line_ends (b ∷ bytes) zero lt e none = rw (eq-eqb b 10 e) refl
line_ends (b ∷ bytes) (suc i) lt e none =
    rw (ne_eqb b 10 (none 0 (omega arith)), line_ends bytes i (omega arith) e (later 10 i b bytes none)) refl

pub never_ends : (bytes : List ℕ) → 0 < length bytes → NoneBelow 10 (length bytes) bytes → cert_lines_of bytes ≡ [] ∷ []
unfolding cert_lines_of
never_ends [] lt none = absurd (omega arith)
never_ends (b ∷ []) lt none = rw (ne_eqb b 10 (none 0 (omega arith))) refl
never_ends (b ∷ c ∷ bytes) lt none =
    rw (ne_eqb b 10 (none 0 (omega arith)), never_ends (c ∷ bytes) (omega arith) (later 10 (length (c ∷ bytes)) b (c ∷ bytes) none)) refl

blank_first : (ws : List Word) → 0 < length ws → onto_line 32 ws ≡ [] ∷ ws
blank_first [] lt = absurd (omega arith)
blank_first (w ∷ ws) lt = refl

onto_some : (b : ℕ) (ws : List Word) → 0 < length ws → 0 < length (onto_line b ws)
onto_some b [] lt = absurd (omega arith)
onto_some b (w ∷ ws) lt =
    elim (cases_Bool (eqb b 32)) [
      | inl blank ↦ rw blank (omega arith)
      | inr other ↦ rw other (omega arith)
    ]

-- a line has a word
pub some_word : (line : List ℕ) → 0 < length (line_words line)
unfolding line_words
some_word [] = omega arith
some_word (b ∷ line) = onto_some b (line_words line) (some_word line)

pub word_ends : (line : List ℕ) (i : ℕ) → i < length line → get_or line i 0 ≡ 32 → NoneBelow 32 i line → line_words line ≡ take i line ∷ line_words (drop (suc i) line)
unfolding line_words
word_ends [] i lt e none = absurd (omega arith)
word_ends (b ∷ line) zero lt e none = ap (λ (x : ℕ). onto_line x (line_words line)) e ∙ blank_first (line_words line) (some_word line)
word_ends (b ∷ line) (suc i) lt e none =
    rw (word_ends line i (omega arith) e (later 32 i b line none), ne_eqb b 32 (none 0 (omega arith))) refl

pub last_word : (line : List ℕ) → NoneBelow 32 (length line) line → line_words line ≡ line ∷ []
unfolding line_words
last_word [] none = refl
last_word (b ∷ line) none = rw (last_word line (later 32 (length line) b line none), ne_eqb b 32 (none 0 (omega arith))) refl

-- as code cuts it
pub line_cut : (bytes : List ℕ) (i : ℕ) → i < length bytes → get_or bytes i 0 ≡ 10 → NoneBelow 10 i bytes → cert_lines_of bytes ≡ line_words (take i bytes) ∷ cert_lines_of (take (length bytes - (i + 1)) (drop (i + 1) bytes))
line_cut bytes i lt e none =
    let whole : take (length bytes - (i + 1)) (drop (i + 1) bytes) ≡ drop (i + 1) bytes = take_all _ _ (omega (arith, length-drop (i + 1) bytes)) in
    line_ends bytes i lt e none ∙ ap (λ (rest : List ℕ). line_words (take i bytes) ∷ cert_lines_of rest) (ap (λ (k : ℕ). drop k bytes) (sym (add-one i)) ∙ sym whole)

pub word_cut : (line : List ℕ) (i : ℕ) → i < length line → get_or line i 0 ≡ 32 → NoneBelow 32 i line → line_words line ≡ take i line ∷ line_words (take (length line - (i + 1)) (drop (i + 1) line))
word_cut line i lt e none =
    let whole : take (length line - (i + 1)) (drop (i + 1) line) ≡ drop (i + 1) line = take_all _ _ (omega (arith, length-drop (i + 1) line)) in
    word_ends line i lt e none ∙ ap (λ (rest : List ℕ). take i line ∷ line_words rest) (ap (λ (k : ℕ). drop k line) (sym (add-one i)) ∙ sym whole)

pub no_lines : (bytes rest : List ℕ) → 0 < length bytes → NoneBelow 10 (length bytes) bytes → rest ≡ [] → cert_lines_of bytes ≡ [] ∷ cert_lines_of rest
unfolding cert_lines_of
no_lines bytes rest some none e = rw e (never_ends bytes some none)

pub nothing_left : (bytes : List ℕ) → length bytes ≡ 0 → cert_lines_of bytes ≡ []
unfolding cert_lines_of
nothing_left [] e = refl
nothing_left (b ∷ bytes) e = absurd (omega arith)
