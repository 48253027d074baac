-- The lines of a text that is cut behind an LF.
use Rattle.std.proofs.Common.{◌≡◌, ℕ, eqb, List, [], ◌∷◌, ◌++◌, refl, sym, ap, ◌∙◌, inl, inr}
use Rattle.std.proofs.Math.Bool.{◌&&◌}
use Rattle.std.proofs.lemmas.Bool.{cases_Bool}
use Rattle.slot_text.specs.Lines.{starts_with_lf, first_line, after_line, onto_first, lines_of}
use Rattle.slot_text.proofs.LineLemmas.{lines_split}

starts_alike : (front back : List ℕ) → starts_with_lf ((front ++ 10 ∷ []) ++ back) ≡ starts_with_lf (front ++ 10 ∷ [])
starts_alike [] back = refl
starts_alike (b ∷ front) back = refl

onto_front : (b : ℕ) (texts more : List (List ℕ)) → (texts ≡ [] → ⊥) → onto_first b (texts ++ more) ≡ onto_first b texts ++ more
onto_front b [] more some = absurd (some refl)
onto_front b (text ∷ texts) more some = refl

has_line : (front : List ℕ) → lines_of (front ++ 10 ∷ []) ≡ [] → ⊥
has_line [] e = let none : first_line (10 ∷ []) ∷ lines_of (after_line (10 ∷ [])) ≡ [] = sym (lines_split 10 []) ∙ e in absurd cc
has_line (b ∷ front) e =
    let text = front ++ 10 ∷ [] in
    let none : first_line (b ∷ text) ∷ lines_of (after_line (b ∷ text)) ≡ [] = sym (lines_split b text) ∙ e in
    absurd cc

pub lines_parts : (front back : List ℕ) → lines_of ((front ++ 10 ∷ []) ++ back) ≡ lines_of (front ++ 10 ∷ []) ++ lines_of back
unfolding lines_of
lines_parts [] back = refl
lines_parts (b ∷ front) back =
    let tail = lines_parts front back in
    elim (cases_Bool (eqb b 10)) [
      | inl lf ↦ rw lf (ap (λ (texts : List (List ℕ)). [] ∷ texts) tail)
      | inr other_byte ↦ elim (cases_Bool (eqb b 13 && starts_with_lf (front ++ 10 ∷ []))) [
        | inl crlf ↦ rw (other_byte, starts_alike front back, crlf) tail
        | inr inside ↦
            rw (other_byte, starts_alike front back, inside)
            (ap (onto_first b) tail ∙ onto_front b (lines_of (front ++ 10 ∷ [])) (lines_of back) (has_line front))
      ]
    ]
