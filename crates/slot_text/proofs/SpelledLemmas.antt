-- What is spelled as lines and fields is cut into them again.
use Rattle.std.proofs.Common.{◌≡◌, ◌≢◌, ℕ, ◌+◌, ◌%◌, ◌^◌, ◌<◌, ◌≤◌, false, true, not, eqb, List, [], ◌∷◌, ◌++◌, refl, ap, arith}
use Rattle.std.specs.Fmt.{decimal}
use Rattle.std.proofs.lemmas.Fmt.{decimal_by_steps}
use Rattle.std.proofs.lemmas.Bool.{ne_eqb}
use Rattle.slot_text.specs.Lines.{first_line, after_line, onto_first, lines_of}
use Rattle.slot_text.specs.Fields.{is_blank, begins_in_field, fields_of}
use Rattle.slot_text.specs.Spelled.{IsLineText, IsFieldText}

pub IsLineText-append : (a b : List ℕ) → IsLineText a → IsLineText b → IsLineText (a ++ b)
IsLineText-append [] b x y = y
IsLineText-append (c ∷ a) b x y = (x.0, IsLineText-append a b x.1 y)

pub IsFieldText-append : (a b : List ℕ) → IsFieldText a → IsFieldText b → IsFieldText (a ++ b)
IsFieldText-append [] b x y = y
IsFieldText-append (c ∷ a) b x y = (x.0, IsFieldText-append a b x.1 y)

pub line_text_of_field : (text : List ℕ) → IsFieldText text → IsLineText text
line_text_of_field [] x = tt
line_text_of_field (b ∷ text) x = (omega (arith, x.0), line_text_of_field text x.1)

-- a line and its LF in front of more text
pub first_line-line : (line rest : List ℕ) → IsLineText line → first_line (line ++ 10 ∷ rest) ≡ line
unfolding first_line
first_line-line [] rest x = refl
first_line-line (b ∷ line) rest x =
    let no_lf : eqb b 10 ≡ false = ne_eqb b 10 (λ h. omega (arith, h, x.0)) in
    let no_cr : eqb b 13 ≡ false = ne_eqb b 13 (λ h. omega (arith, h, x.0)) in
    rw (no_lf, no_cr) (ap (λ (text : List ℕ). b ∷ text) (first_line-line line rest x.1))

pub after_line-line : (line rest : List ℕ) → IsLineText line → after_line (line ++ 10 ∷ rest) ≡ rest
unfolding after_line
after_line-line [] rest x = refl
after_line-line (b ∷ line) rest x =
    let no_lf : eqb b 10 ≡ false = ne_eqb b 10 (λ h. omega (arith, h, x.0)) in
    rw no_lf (after_line-line line rest x.1)

pub lines_of-line : (line rest : List ℕ) → IsLineText line → lines_of (line ++ 10 ∷ rest) ≡ line ∷ lines_of rest
unfolding lines_of
lines_of-line [] rest x = refl
lines_of-line (b ∷ line) rest x =
    let no_lf : eqb b 10 ≡ false = ne_eqb b 10 (λ h. omega (arith, h, x.0)) in
    let no_cr : eqb b 13 ≡ false = ne_eqb b 13 (λ h. omega (arith, h, x.0)) in
    rw (no_lf, no_cr) (ap (onto_first b) (lines_of-line line rest x.1))

field_byte : (b : ℕ) → 33 ≤ b → is_blank b ≡ false
field_byte b le = rw (ne_eqb b 32 (λ h. omega (arith, h)), ne_eqb b 9 (λ h. omega (arith, h))) refl

-- a field and one blank in front of more text
pub fields_of-field : (b : ℕ) (field rest : List ℕ) → IsFieldText (b ∷ field) → fields_of ((b ∷ field) ++ 32 ∷ rest) ≡ (b ∷ field) ∷ fields_of rest
unfolding fields_of
fields_of-field b [] rest x = rw (field_byte b x.0) refl
fields_of-field b (c ∷ field) rest x =
    let inside : begins_in_field (c ∷ (field ++ 32 ∷ rest)) ≡ true = ap not (field_byte c x.1.0) in
    rw (field_byte b x.0, inside) (ap (onto_first b) (fields_of-field c field rest x.1))

-- a field at the end of a line
pub fields_of-last : (b : ℕ) (field : List ℕ) → IsFieldText (b ∷ field) → fields_of (b ∷ field) ≡ (b ∷ field) ∷ []
unfolding fields_of
fields_of-last b [] x = rw (field_byte b x.0) refl
fields_of-last b (c ∷ field) x =
    let inside : begins_in_field (c ∷ field) ≡ true = ap not (field_byte c x.1.0) in
    rw (field_byte b x.0, inside) (ap (onto_first b) (fields_of-last c field x.1))

-- the digits of a number are one field
pub IsFieldText-decimal : (n : ℕ) → n < 2 ^ 64 → IsFieldText (decimal n)
IsFieldText-decimal n small =
    decimal_by_steps (λ (n : ℕ) (digits : List ℕ). n < 2 ^ 64 → IsFieldText digits)
    (λ n lt _. (omega arith, tt))
    (λ n digits ge shorter fits. IsFieldText-append digits ((48 + n % 10) ∷ []) (shorter (omega arith)) (omega arith, tt))
    n small small

-- ---- fields of at least one byte

pub spelled_field : (field rest : List ℕ) → IsFieldText field → field ≢ [] → fields_of (field ++ 32 ∷ rest) ≡ field ∷ fields_of rest
spelled_field [] rest x some = absurd (some refl)
spelled_field (b ∷ field) rest x some = fields_of-field b field rest x

pub spelled_last : (field : List ℕ) → IsFieldText field → field ≢ [] → fields_of field ≡ field ∷ []
spelled_last [] x some = absurd (some refl)
spelled_last (b ∷ field) x some = fields_of-last b field x
