-- A line's bytes, tested for blanks one after the other.
use Rattle.std.proofs.Common.{◌≡◌, ℕ, zero, suc, ◌+◌, ◌<◌, ◌≤◌, true, false, List, [], ◌∷◌, length, drop, get_or, sym, ap, refl, ◌∙◌, arith, drop-cons, add-one}
use Rattle.slot_text.specs.Fields.{is_blank, is_blank_line}

nothing_left : (line : List ℕ) (i : ℕ) → length line ≤ i → drop i line ≡ []
nothing_left [] zero past = refl
nothing_left [] (suc i) past = refl
nothing_left (b ∷ line) zero past = absurd (omega (arith, past))
nothing_left (b ∷ line) (suc i) past = nothing_left line i (omega (arith, past))

pub blank_step : (line : List ℕ) (i b : ℕ) → i < length line → get_or line i 0 ≡ b → is_blank b ≡ true
    → is_blank_line (drop i line) ≡ is_blank_line line → is_blank_line (drop (i + 1) line) ≡ is_blank_line line
unfolding is_blank_line
blank_step line i b lt at blank so_far =
    let here : drop i line ≡ b ∷ drop (suc i) line = drop-cons line i 0 lt ∙ ap (λ (x : ℕ). x ∷ drop (suc i) line) at in
    rw add-one (sym (ap is_blank_line here ∙ rw blank refl) ∙ so_far)

pub blank_stop : (line : List ℕ) (i b : ℕ) → i < length line → get_or line i 0 ≡ b → is_blank b ≡ false
    → is_blank_line (drop i line) ≡ is_blank_line line → false ≡ is_blank_line line
unfolding is_blank_line
blank_stop line i b lt at byte so_far =
    let here : drop i line ≡ b ∷ drop (suc i) line = drop-cons line i 0 lt ∙ ap (λ (x : ℕ). x ∷ drop (suc i) line) at in
    sym (ap is_blank_line here ∙ rw byte refl) ∙ so_far

pub blank_end : (line : List ℕ) (i : ℕ) → length line ≤ i → is_blank_line (drop i line) ≡ is_blank_line line → true ≡ is_blank_line line
unfolding is_blank_line
blank_end line i past so_far = sym (ap is_blank_line (nothing_left line i past)) ∙ so_far
