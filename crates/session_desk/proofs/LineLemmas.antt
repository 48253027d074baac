-- The line that is under way, and one more byte of it.
use Rattle.std.proofs.Common.{◌≡◌, ℕ, ◌+◌, ◌≤◌, Bool, true, false, ◌||◌, ◌&&◌, not, eqb, List, [], ◌∷◌, ◌++◌, length, refl, sym, ap, ◌∙◌, inl, inr, arith}
use Rattle.std.proofs.lemmas.Bool.{cases_Bool, eqb-true}
use Rattle.slot_text.specs.Fields.{is_blank, is_blank_line}
use Rattle.scr_reader.specs.Streams.{without_last_cr}
use Rattle.session_desk.specs.Private.Held.{ends_with_cr}

pub cr_left : (o : List ℕ) → without_last_cr (o ++ 13 ∷ []) ≡ o
unfolding without_last_cr
cr_left [] = refl
cr_left (a ∷ []) = refl
cr_left (a ∷ c ∷ o) = ap (λ (l : List ℕ). a ∷ l) (cr_left (c ∷ o))

pub byte_left : (o : List ℕ) (b : ℕ) → eqb b 13 ≡ false → without_last_cr (o ++ b ∷ []) ≡ o ++ b ∷ []
unfolding without_last_cr
byte_left [] b e = rw e refl
byte_left (a ∷ []) b e = rw e refl
byte_left (a ∷ c ∷ o) b e = ap (λ (l : List ℕ). a ∷ l) (byte_left (c ∷ o) b e)

pub cr_last : (o : List ℕ) (b : ℕ) → ends_with_cr (o ++ b ∷ []) ≡ eqb b 13
cr_last [] b = refl
cr_last (a ∷ []) b = refl
cr_last (a ∷ c ∷ o) b = cr_last (c ∷ o) b

blank_more : (o : List ℕ) (b : ℕ) → is_blank_line (o ++ b ∷ []) ≡ (is_blank_line o && is_blank b)
unfolding is_blank_line
blank_more [] b = elim (cases_Bool (is_blank b)) [ inl t ↦ rw t refl | inr f ↦ rw f refl ]
blank_more (a ∷ o) b =
    let ih = blank_more o b in
    elim (cases_Bool (is_blank a)) [ inl t ↦ rw t ih | inr f ↦ rw f refl ]

-- a line with its last CR
blank_with_cr : (o : List ℕ) → is_blank_line o ≡ (is_blank_line (without_last_cr o) && not (ends_with_cr o))
unfolding is_blank_line without_last_cr
blank_with_cr [] = refl
blank_with_cr (a ∷ []) =
    elim (cases_Bool (eqb a 13)) [
      | inl t ↦ let e : a ≡ 13 = eqb-true a 13 t in rw e refl
      | inr f ↦ rw f (elim (cases_Bool (is_blank a)) [ inl t ↦ rw t refl | inr g ↦ rw g refl ])
    ]
blank_with_cr (a ∷ c ∷ o) =
    let ih = blank_with_cr (c ∷ o) in
    elim (cases_Bool (is_blank a)) [ inl t ↦ rw t ih | inr f ↦ rw f refl ]

pub blank_nothing : is_blank_line [] ≡ true
unfolding is_blank_line
blank_nothing = refl

pub nothing_left : without_last_cr [] ≡ []
unfolding without_last_cr
nothing_left = refl

pub left_length : (o : List ℕ) → length o ≤ length (without_last_cr o) + 1
unfolding without_last_cr
left_length [] = omega arith
left_length (b ∷ []) = elim (cases_Bool (eqb b 13)) [ inl t ↦ rw t (omega arith) | inr f ↦ rw f (omega arith) ]
left_length (b ∷ c ∷ o) = omega (arith, left_length (c ∷ o))

de_morgan : (full cr : Bool) (b : Bool) → not ((not full && not cr) && b) ≡ (full || (cr || not b))
de_morgan true cr b = refl
de_morgan false true b = refl
de_morgan false false b = refl

or_false : (a b : Bool) → (a || (b || false)) ≡ not (not a && not b)
or_false true b = refl
or_false false true = refl
or_false false false = refl

not_or : (a b : Bool) → (not a && not b) ≡ not (a || b)
not_or true b = refl
not_or false b = refl

twice : (a b : Bool) → a ≡ not b → b ≡ not a
twice true true e = absurd cc
twice true false e = refl
twice false true e = refl
twice false false e = absurd cc

-- whether the open line is blank with its last CR, by what is kept of it
pub blank_at_end : (o : List ℕ) (full cr : Bool) → full ≡ not (is_blank_line (without_last_cr o)) → cr ≡ ends_with_cr o
    → is_blank_line o ≡ not (full || cr)
blank_at_end o full cr is ends =
    blank_with_cr o ∙ rw (sym ends, twice full (is_blank_line (without_last_cr o)) is) (not_or full cr)

-- whether the line has a byte that is not blank, once another byte follows
pub full_after : (o : List ℕ) (full cr : Bool) (b : ℕ) → full ≡ not (is_blank_line (without_last_cr o)) → cr ≡ ends_with_cr o
    → (full || (cr || not (eqb b 13 || is_blank b))) ≡ not (is_blank_line (without_last_cr (o ++ b ∷ [])))
full_after o full cr b is ends =
    let blank : is_blank_line o ≡ (not full && not cr) = blank_with_cr o ∙ rw (ends, twice full (is_blank_line (without_last_cr o)) is) refl in
    elim (cases_Bool (eqb b 13)) [
      | inl t ↦
          let e : b ≡ 13 = eqb-true b 13 t in
          rw (e, cr_left o, blank) (or_false full cr)
      | inr f ↦
          rw (byte_left o b f, blank_more o b, blank, f) (sym (de_morgan full cr (is_blank b)))
    ]

-- a line stays blank only if it was
pub blank_before : (full cr : Bool) (b : ℕ) → (full || (cr || not (eqb b 13 || is_blank b))) ≡ false → full ≡ false
blank_before true cr b e = absurd cc
blank_before false cr b e = refl

pub not_full : (full blank : Bool) → full ≡ not blank → full ≡ false → blank ≡ true
not_full full true is e = refl
not_full full false is e = absurd cc

pub is_full : (full blank : Bool) → full ≡ not blank → full ≡ true → blank ≡ false
is_full full true is e = absurd cc
is_full full false is e = refl
