-- Where lines stand in a text, and runs of lines.
use Rattle.std.proofs.Common.{◌≡◌, ℕ, zero, suc, ◌+◌, ◌-◌, ◌≤◌, true, false, eqb, List, [], ◌∷◌, length, take, drop, refl, sym, ap, ◌∙◌, arith, inl, inr, length-drop}
use Rattle.std.proofs.lemmas.Bool.{cases_Bool, and_right, and_parts}
use Rattle.std.proofs.Math.Seq.{drop-nil}
use Rattle.std.specs.Prelude.{if◌then◌else◌, ◌==◌, ◌&&◌}
use Rattle.slot_text.specs.Lines.{first_line, after_line, onto_first, lines_of}
use Rattle.scr_reader.specs.Places.{after_lines}

-- a part of what follows
pub drop_on : (bytes : List ℕ) (k m : ℕ) → drop m (drop k bytes) ≡ drop (k + m) bytes
drop_on bytes zero m = let e : m ≡ 0 + m = omega arith in ap (λ (n : ℕ). drop n bytes) e
drop_on [] (suc k) m = drop-nil m ∙ sym (drop-nil (suc k + m))
drop_on (b ∷ bytes) (suc k) m =
    let e : suc k + m ≡ suc (k + m) = omega arith in
    rw e (drop_on bytes k m)

-- ---- one line

-- how many bytes the first line has with its end
unfoldable pub line_length : List ℕ → ℕ
line_length [] = 0
line_length (b ∷ bytes) = if b == 10 then 1 else suc (line_length bytes)

length_none : line_length [] ≡ 0
unfolding line_length
length_none = refl

length_lf : (b : ℕ) (bytes : List ℕ) → eqb b 10 ≡ true → line_length (b ∷ bytes) ≡ 1
unfolding line_length
length_lf b bytes lf = rw lf refl

length_byte : (b : ℕ) (bytes : List ℕ) → eqb b 10 ≡ false → line_length (b ∷ bytes) ≡ suc (line_length bytes)
unfolding line_length
length_byte b bytes other = rw other refl

after_lf : (b : ℕ) (bytes : List ℕ) → eqb b 10 ≡ true → after_line (b ∷ bytes) ≡ bytes
unfolding after_line
after_lf b bytes lf = rw lf refl

after_byte : (b : ℕ) (bytes : List ℕ) → eqb b 10 ≡ false → after_line (b ∷ bytes) ≡ after_line bytes
unfolding after_line
after_byte b bytes other = rw other refl

after_none : after_line [] ≡ []
unfolding after_line
after_none = refl

drop_line : (bytes : List ℕ) → (line_length bytes ≤ length bytes) × (after_line bytes ≡ drop (line_length bytes) bytes)
drop_line [] = (omega (arith, length_none), after_none ∙ sym (drop-nil (line_length [])))
drop_line (b ∷ bytes) =
    let rest = drop_line bytes in
    elim (cases_Bool (eqb b 10)) [
      | inl lf ↦ rw (length_lf b bytes lf) (omega arith, after_lf b bytes lf)
      | inr other ↦ rw (length_byte b bytes other) (omega (arith, rest.0), after_byte b bytes other ∙ rest.1)
    ]

some_length : (b : ℕ) (bytes : List ℕ) → 1 ≤ line_length (b ∷ bytes)
some_length b bytes =
    elim (cases_Bool (eqb b 10)) [
      | inl lf ↦ omega (arith, length_lf b bytes lf)
      | inr other ↦ omega (arith, length_byte b bytes other)
    ]

-- what follows a line, by its length
pub after_at : (bytes rest : List ℕ) → rest ≡ after_line bytes → rest ≡ drop (length bytes - length rest) bytes
after_at bytes rest e =
    let line = drop_line bytes in
    let whole : rest ≡ drop (line_length bytes) bytes = e ∙ line.1 in
    let count : length bytes - length rest ≡ line_length bytes = omega (arith, line.0, ap (λ (l : List ℕ). length l) whole, length-drop (line_length bytes) bytes) in
    whole ∙ ap (λ (k : ℕ). drop k bytes) (sym count)

-- ---- the lines of a part of a text

first_lf : (b : ℕ) (bytes : List ℕ) → eqb b 10 ≡ true → first_line (b ∷ bytes) ≡ []
unfolding first_line
first_lf b bytes lf = rw lf refl

lines_lf : (b : ℕ) (bytes : List ℕ) → eqb b 10 ≡ true → lines_of (b ∷ bytes) ≡ [] ∷ lines_of bytes
unfolding lines_of
lines_lf b bytes lf = rw lf refl

first_last : (b : ℕ) → eqb b 10 ≡ false → first_line (b ∷ []) ≡ b ∷ []
unfolding first_line
first_last b other = rw (other, and_right (eqb b 13) false refl) refl

lines_last : (b : ℕ) → eqb b 10 ≡ false → lines_of (b ∷ []) ≡ (b ∷ []) ∷ []
unfolding lines_of
lines_last b other = rw (other, and_right (eqb b 13) false refl) refl

lines_none : lines_of [] ≡ []
unfolding lines_of
lines_none = refl

-- a CR before an LF
first_cr : (b c : ℕ) (bytes : List ℕ) → eqb b 10 ≡ false → eqb b 13 ≡ true → eqb c 10 ≡ true → first_line (b ∷ c ∷ bytes) ≡ first_line (c ∷ bytes)
unfolding first_line
first_cr b c bytes other cr lf = rw (other, cr, lf) refl

lines_cr : (b c : ℕ) (bytes : List ℕ) → eqb b 10 ≡ false → eqb b 13 ≡ true → eqb c 10 ≡ true → lines_of (b ∷ c ∷ bytes) ≡ lines_of (c ∷ bytes)
unfolding lines_of
lines_cr b c bytes other cr lf = rw (other, cr, lf) refl

-- any other byte
first_byte : (b c : ℕ) (bytes : List ℕ) → eqb b 10 ≡ false → (eqb b 13 && eqb c 10) ≡ false → first_line (b ∷ c ∷ bytes) ≡ b ∷ first_line (c ∷ bytes)
unfolding first_line
first_byte b c bytes other in_line = rw (other, in_line) refl

lines_byte : (b c : ℕ) (bytes : List ℕ) → eqb b 10 ≡ false → (eqb b 13 && eqb c 10) ≡ false → lines_of (b ∷ c ∷ bytes) ≡ onto_first b (lines_of (c ∷ bytes))
unfolding lines_of
lines_byte b c bytes other in_line = rw (other, in_line) refl

abbrev no_bytes : List ℕ
no_bytes = []

take_none : (m : ℕ) → take m no_bytes ≡ no_bytes
take_none zero = refl
take_none (suc m) = refl

-- the first line with its end, and so many bytes behind it
lines_taken : (b : ℕ) (bytes : List ℕ) (k m : ℕ) → k ≡ line_length (b ∷ bytes) + m → lines_of (take k (b ∷ bytes)) ≡ first_line (b ∷ bytes) ∷ lines_of (take m (after_line (b ∷ bytes)))
lines_taken b [] k m e =
    elim (cases_Bool (eqb b 10)) [
      | inl lf ↦
          let count : k ≡ suc m = omega (arith, e, length_lf b [] lf) in
          rw (count, first_lf b [] lf, after_lf b [] lf) (lines_lf b (take m []) lf)
      | inr other ↦
          let count : k ≡ suc m = omega (arith, e, length_byte b [] other, length_none) in
          let none : take m (after_line (b ∷ [])) ≡ [] = ap (λ (l : List ℕ). take m l) (after_byte b [] other ∙ after_none) ∙ take_none m in
          rw (count, first_last b other, none, lines_none, take_none m) (lines_last b other)
    ]
lines_taken b (c ∷ bytes) k m e =
    elim (cases_Bool (eqb b 10)) [
      | inl lf ↦
          let count : k ≡ suc m = omega (arith, e, length_lf b (c ∷ bytes) lf) in
          rw (count, first_lf b (c ∷ bytes) lf, after_lf b (c ∷ bytes) lf) (lines_lf b (take m (c ∷ bytes)) lf)
      | inr other ↦
          let i : ℕ = line_length (c ∷ bytes) + m - 1 in
          let some = some_length c bytes in
          let inner : suc i ≡ line_length (c ∷ bytes) + m = omega (arith, some) in
          let count : k ≡ suc (suc i) = omega (arith, e, length_byte b (c ∷ bytes) other, inner) in
          let tail = lines_taken c bytes (suc i) m inner in
          let rest = after_byte b (c ∷ bytes) other in
          elim (cases_Bool (eqb b 13 && eqb c 10)) [
            | inl both ↦
                let cr = and_parts (eqb b 13) (eqb c 10) both in
                rw (count, first_cr b c bytes other cr.0 cr.1, rest) (lines_cr b c (take i bytes) other cr.0 cr.1 ∙ tail)
            | inr in_line ↦
                rw (count, first_byte b c bytes other in_line, rest) (lines_byte b c (take i bytes) other in_line ∙ ap (onto_first b) tail)
          ]
    ]

take_whole : (bytes : List ℕ) (k : ℕ) → length bytes ≤ k → take k bytes ≡ bytes
take_whole [] k le = take_none k
take_whole (b ∷ bytes) zero le = absurd (omega (arith, le))
take_whole (b ∷ bytes) (suc k) le = ap (λ (l : List ℕ). b ∷ l) (take_whole bytes k (omega (arith, le)))

pub lines_split : (b : ℕ) (bytes : List ℕ) → lines_of (b ∷ bytes) ≡ first_line (b ∷ bytes) ∷ lines_of (after_line (b ∷ bytes))
lines_split b bytes =
    let rest = after_line (b ∷ bytes) in
    let line = drop_line (b ∷ bytes) in
    let count : length (b ∷ bytes) ≡ line_length (b ∷ bytes) + length rest = omega (arith, line.0, ap (λ (l : List ℕ). length l) line.1, length-drop (line_length (b ∷ bytes)) (b ∷ bytes)) in
    ap lines_of (sym (take_whole (b ∷ bytes) (length (b ∷ bytes)) (omega arith))) ∙ lines_taken b bytes (length (b ∷ bytes)) (length rest) count
    ∙ ap (λ (l : List ℕ). first_line (b ∷ bytes) ∷ lines_of l) (take_whole rest (length rest) (omega arith))

-- ---- several lines

pub after_zero : (bytes : List ℕ) → after_lines 0 bytes ≡ bytes
unfolding after_lines
after_zero bytes = refl

after_suc : (n : ℕ) (bytes : List ℕ) → after_lines (suc n) bytes ≡ after_lines n (after_line bytes)
unfolding after_lines
after_suc n bytes = refl

pub more_lines : (n m : ℕ) (bytes : List ℕ) → after_lines (n + m) bytes ≡ after_lines m (after_lines n bytes)
more_lines zero m bytes = let e : 0 + m ≡ m = omega arith in rw (e, after_zero bytes) refl
more_lines (suc n) m bytes =
    let e : suc n + m ≡ suc (n + m) = omega arith in
    rw (e, after_suc (n + m) bytes, after_suc n bytes) (more_lines n m (after_line bytes))

pub one_more_line : (n : ℕ) (bytes : List ℕ) → after_lines (n + 1) bytes ≡ after_line (after_lines n bytes)
one_more_line n bytes = more_lines n 1 bytes ∙ after_suc 0 (after_lines n bytes) ∙ after_zero (after_line (after_lines n bytes))

shorter : (n : ℕ) (bytes : List ℕ) → length (after_lines n bytes) ≤ length bytes
shorter zero bytes = rw (after_zero bytes) (omega arith)
shorter (suc n) bytes =
    let line = drop_line bytes in
    rw (after_suc n bytes) (omega (arith, shorter n (after_line bytes), ap (λ (l : List ℕ). length l) line.1, length-drop (line_length bytes) bytes))

no_more : (n : ℕ) → after_lines n [] ≡ []
no_more zero = after_zero []
no_more (suc n) = after_suc n [] ∙ ap (after_lines n) after_none ∙ no_more n

pub lines_after : (n : ℕ) (bytes : List ℕ) → lines_of (after_lines n bytes) ≡ drop n (lines_of bytes)
lines_after zero bytes = ap lines_of (after_zero bytes)
lines_after (suc n) [] = ap lines_of (no_more (suc n)) ∙ lines_none ∙ sym (ap (λ (l : List (List ℕ)). drop (suc n) l) lines_none)
lines_after (suc n) (b ∷ bytes) =
    ap lines_of (after_suc n (b ∷ bytes)) ∙ lines_after n (after_line (b ∷ bytes)) ∙ sym (ap (λ (l : List (List ℕ)). drop (suc n) l) (lines_split b bytes))

-- the bytes up to what follows so many lines have these lines
pub lines_before : (n k : ℕ) (bytes : List ℕ) → k ≤ length bytes → drop k bytes ≡ after_lines n bytes → lines_of (take k bytes) ≡ take n (lines_of bytes)
lines_before zero k bytes within e =
    let none : k ≡ 0 = omega (arith, within, ap (λ (l : List ℕ). length l) (e ∙ after_zero bytes), length-drop k bytes) in
    rw none lines_none
lines_before (suc n) k [] within e =
    let none : k ≡ 0 = omega (arith, within) in
    rw (none, lines_none) refl
lines_before (suc n) k (b ∷ bytes) within e =
    let rest = after_line (b ∷ bytes) in
    let line = drop_line (b ∷ bytes) in
    let behind : drop k (b ∷ bytes) ≡ after_lines n rest = e ∙ after_suc n (b ∷ bytes) in
    let m : ℕ = k - line_length (b ∷ bytes) in
    let size = length-drop (line_length (b ∷ bytes)) (b ∷ bytes) in
    let long : line_length (b ∷ bytes) ≤ k = omega (arith, within, line.0, shorter n rest, ap (λ (l : List ℕ). length l) line.1, size, ap (λ (l : List ℕ). length l) behind, length-drop k (b ∷ bytes)) in
    let count : k ≡ line_length (b ∷ bytes) + m = omega (arith, long) in
    let inner : m ≤ length rest = omega (arith, within, count, ap (λ (l : List ℕ). length l) line.1, size) in
    let later : drop m rest ≡ after_lines n rest =
    ap (λ (l : List ℕ). drop m l) line.1 ∙ drop_on (b ∷ bytes) (line_length (b ∷ bytes)) m ∙ ap (λ (j : ℕ). drop j (b ∷ bytes)) (sym count) ∙ behind in
    lines_taken b bytes k m count ∙ ap (λ (l : List (List ℕ)). first_line (b ∷ bytes) ∷ l) (lines_before n m rest inner later) ∙ sym (ap (λ (l : List (List ℕ)). take (suc n) l) (lines_split b bytes))
