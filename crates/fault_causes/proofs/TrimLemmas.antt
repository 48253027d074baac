-- A line that is, without its trailing blanks, three bytes of a field.
use Rattle.std.proofs.Common.{◌≡◌, ◌≢◌, ℕ, ◌+◌, ◌/◌, ◌%◌, true, false, List, [], ◌∷◌, refl, ap, ◌∙◌, arith, inl, inr}
use Rattle.std.specs.Prelude.{◌&&◌}
use Rattle.std.proofs.lemmas.Bool.{cases_Bool, and_parts, ne_eqb}
use Rattle.slot_text.specs.Fields.{is_blank, is_blank_line, begins_in_field, fields_of}
use Rattle.season_days.specs.Term.{Term}
use Rattle.season_days.specs.Seasons.{season_text, half_letter}
use Rattle.season_days.specs.declared.season.Half.{Half}
use Rattle.season_days.specs.declared.season.Half.TheVariants.{Summer, Winter}
use Rattle.scr_reader.specs.Rows.{trimmed}

-- ---- what a trimmed text says of its line

record Begins (line : List ℕ) (a : ℕ) (text : List ℕ) : Type 0 where
  rest : List ℕ
  is : line ≡ a ∷ rest
  trims : trimmed rest ≡ text

first_byte : (line : List ℕ) (a : ℕ) (text : List ℕ) → trimmed line ≡ a ∷ text → Begins line a text
unfolding trimmed
first_byte [] a text e = absurd (cc)
first_byte (b ∷ line) a text e =
    elim (cases_Bool (is_blank_line (b ∷ line))) [
      | inl blank ↦ absurd (let none = rw blank at e in cc)
      | inr full ↦
          let here : b ∷ trimmed line ≡ a ∷ text = rw full at e in
          record { rest = line; is = (let same : b ≡ a = cc in ap (λ (x : ℕ). x ∷ line) same); trims = cc }
    ]

only_blanks : (line : List ℕ) → trimmed line ≡ [] → is_blank_line line ≡ true
unfolding trimmed is_blank_line
only_blanks [] e = refl
only_blanks (b ∷ line) e =
    elim (cases_Bool (is_blank b && is_blank_line line)) [
      | inl blank ↦ blank
      | inr full ↦ absurd (let some = rw full at e in cc)
    ]

-- ---- fields

no_fields : (line : List ℕ) → is_blank_line line ≡ true → (fields_of line ≡ []) × (begins_in_field line ≡ false)
unfolding is_blank_line fields_of
no_fields [] blank = (refl, refl)
no_fields (b ∷ line) blank =
    let both = and_parts (is_blank b) (is_blank_line line) blank in
    (rw both.0 (no_fields line both.1).0, rw both.0 refl)

three_bytes : (a b c : ℕ) (line : List ℕ) → is_blank a ≡ false → is_blank b ≡ false → is_blank c ≡ false → fields_of line ≡ [] → begins_in_field line ≡ false → fields_of (a ∷ b ∷ c ∷ line) ≡ (a ∷ b ∷ c ∷ []) ∷ []
unfolding fields_of
three_bytes a b c line x y z none ends = rw (x, y, z, ends, none) refl

one_field : (line : List ℕ) (a b c : ℕ) → is_blank a ≡ false → is_blank b ≡ false → is_blank c ≡ false → trimmed line ≡ a ∷ b ∷ c ∷ [] → fields_of line ≡ (a ∷ b ∷ c ∷ []) ∷ []
one_field line a b c x y z e =
    let one = first_byte line a (b ∷ c ∷ []) e in
    let two = first_byte one.rest b (c ∷ []) one.trims in
    let three = first_byte two.rest c [] two.trims in
    let none = no_fields three.rest (only_blanks three.rest three.trims) in
    let whole : line ≡ a ∷ b ∷ c ∷ three.rest = one.is ∙ ap (λ (l : List ℕ). a ∷ l) (two.is ∙ ap (λ (l : List ℕ). b ∷ l) three.is) in
    rw whole (three_bytes a b c three.rest x y z none.0 none.1)

-- ---- a season's name

digit_byte : (n : ℕ) → is_blank (48 + n) ≡ false
digit_byte n =
    let space : 48 + n ≢ 32 = λ e. omega (arith, e) in
    let tab : 48 + n ≢ 9 = λ e. omega (arith, e) in
    rw (ne_eqb (48 + n) 32 space, ne_eqb (48 + n) 9 tab) refl

letter_byte : (half : Half) → is_blank (half_letter half) ≡ false
letter_byte Summer = refl
letter_byte Winter = refl

pub season_field : (line : List ℕ) (season : Term) → trimmed line ≡ season_text season → fields_of line ≡ season_text season ∷ []
season_field line season e = one_field line (half_letter season.half) (48 + season.year / 10) (48 + season.year % 10) (letter_byte season.half) (digit_byte (season.year / 10)) (digit_byte (season.year % 10)) e
