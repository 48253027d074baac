-- Blanks at the end of a line.
use Rattle.std.proofs.Common.{◌≡◌, ◌≢◌, ℕ, ◌+◌, ◌<◌, Bool, true, false, List, [], ◌∷◌, ◌++◌, length, take, get_or, refl, ◌∙◌, add-one}
use Rattle.std.proofs.Math.Bool.{◌&&◌}
use Rattle.std.proofs.lemmas.Bool.{ne_eqb}
use Rattle.std.proofs.Math.Seq.{take-suc}
use Rattle.slot_text.specs.Fields.{is_blank, is_blank_line}
use Rattle.scr_reader.specs.Rows.{trimmed}

and_false : (a : Bool) → (a && false) ≡ false
and_false true = refl
and_false false = refl

pub not_blank : (b : ℕ) → b ≢ 32 → b ≢ 9 → is_blank b ≡ false
not_blank b space tab = rw (ne_eqb b 32 space, ne_eqb b 9 tab) refl

and_true : (a : Bool) → (a && true) ≡ a
and_true true = refl
and_true false = refl

and_groups : (a b c : Bool) → (a && (b && c)) ≡ ((a && b) && c)
and_groups true b c = refl
and_groups false b c = refl

empty_more : (line : List ℕ) (b : ℕ) → is_blank_line (line ++ b ∷ []) ≡ (is_blank_line line && is_blank b)
unfolding is_blank_line
empty_more [] b = and_true (is_blank b)
empty_more (x ∷ line) b = rw (empty_more line b) (and_groups (is_blank x) (is_blank_line line) (is_blank b))

still_empty : (line : List ℕ) (b : ℕ) → is_blank b ≡ true → is_blank_line (line ++ b ∷ []) ≡ is_blank_line line
still_empty line b blank = empty_more line b ∙ rw blank (and_true (is_blank_line line))

never_empty : (line : List ℕ) (b : ℕ) → is_blank b ≡ false → is_blank_line (line ++ b ∷ []) ≡ false
never_empty line b byte = empty_more line b ∙ rw byte (and_false (is_blank_line line))

pub trim_blank : (line : List ℕ) (b : ℕ) → is_blank b ≡ true → trimmed (line ++ b ∷ []) ≡ trimmed line
unfolding trimmed is_blank_line
trim_blank [] b blank = rw blank refl
trim_blank (x ∷ line) b blank = rw (still_empty line b blank, trim_blank line b blank) refl

pub trim_byte : (line : List ℕ) (b : ℕ) → is_blank b ≡ false → trimmed (line ++ b ∷ []) ≡ line ++ b ∷ []
unfolding trimmed is_blank_line
trim_byte [] b byte = rw byte refl
trim_byte (x ∷ line) b byte = rw (never_empty line b byte, and_false (is_blank x), trim_byte line b byte) refl

-- a byte more, and what is trimmed of it
pub trim_on_blank : (line : List ℕ) (i end b : ℕ) → i < length line → get_or line i 0 ≡ b → is_blank b ≡ true → trimmed (take i line) ≡ take end line → trimmed (take (i + 1) line) ≡ take end line
trim_on_blank line i end b lt at blank so_far =
    rw (add-one, take-suc line i 0 lt, at) (trim_blank (take i line) b blank ∙ so_far)

pub trim_on_byte : (line : List ℕ) (i b : ℕ) → i < length line → get_or line i 0 ≡ b → is_blank b ≡ false → trimmed (take (i + 1) line) ≡ take (i + 1) line
trim_on_byte line i b lt at byte =
    rw (add-one, take-suc line i 0 lt, at) (trim_byte (take i line) b byte)

pub trim_nothing : (line : List ℕ) → trimmed (take 0 line) ≡ take 0 line
unfolding trimmed
trim_nothing line = refl
