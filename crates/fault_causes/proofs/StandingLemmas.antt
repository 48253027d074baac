-- Where the line behind another one stands.
use Rattle.std.proofs.Common.{◌≡◌, ℕ, zero, suc, ◌+◌, Bool, true, false, eqb, List, [], ◌∷◌, ◌++◌, length, refl, sym, ap, subst, ◌∙◌, arith}
use Rattle.std.specs.Prelude.{if◌then◌else◌}
use Rattle.std.proofs.lemmas.Bool.{ne_eqb}
use Rattle.slot_text.specs.Lines.{lines_of}
use Rattle.slot_text.specs.Fields.{is_blank_line}
use Rattle.scr_reader.specs.Messages.{begins_with_slash, has_address}
use Rattle.fault_causes.specs.Requests.{line_of_season, lines_since}
use Rattle.fault_causes.specs.Standings.{IsStanding, address_next, is_season_next}

-- the season's line is among the first three
far_line : (a b c : List ℕ) (before : List (List ℕ)) (line : List ℕ) (slash : Bool) → begins_with_slash b ≡ slash → is_season_next (suc (suc (suc (length before)))) slash ≡ false
    → line_of_season (a ∷ b ∷ c ∷ (before ++ line ∷ [])) ≡ (if is_season_next (suc (suc (suc (length before)))) slash then line else line_of_season (a ∷ b ∷ c ∷ before))
far_line a b c before line true e f = rw (f, e) refl
far_line a b c before line false e f = rw (f, e) refl

line_next : (before : List (List ℕ)) (line : List ℕ) (slash : Bool) → has_address (before ++ line ∷ []) ≡ slash → line_of_season (before ++ line ∷ []) ≡ (if is_season_next (length before) slash then line else line_of_season before)
line_next [] line slash e = refl
line_next (a ∷ []) line true e = rw e refl
line_next (a ∷ []) line false e = rw e refl
line_next (a ∷ b ∷ []) line true e = rw e refl
line_next (a ∷ b ∷ []) line false e = rw e refl
line_next (a ∷ b ∷ c ∷ before) line slash e =
    let one : eqb (suc (suc (suc (length before)))) 1 ≡ false = ne_eqb _ 1 (λ h. omega (arith, h)) in
    let two : eqb (suc (suc (suc (length before)))) 2 ≡ false = ne_eqb _ 2 (λ h. omega (arith, h)) in
    far_line a b c before line slash e (rw (one, two) refl)

address_more : (before : List (List ℕ)) (line : List ℕ) → has_address (before ++ line ∷ []) ≡ address_next (length before) (has_address before) line
address_more [] line = refl
address_more (a ∷ []) line = refl
address_more (a ∷ b ∷ before) line =
    let one : eqb (suc (suc (length before))) 1 ≡ false = ne_eqb _ 1 (λ h. omega (arith, h)) in
    rw one refl

count_more : (before : List (List ℕ)) (line : List ℕ) → length (before ++ line ∷ []) ≡ length before + 1
count_more [] line = refl
count_more (a ∷ before) line = omega (arith, count_more before line)

pub stands_next : (above : ℕ) (address : Bool) (season : List ℕ) (before : List (List ℕ)) (line : List ℕ) (next : ℕ) (slash : Bool) (named : List ℕ) → IsStanding above address season before
    → next ≡ above + 1 → slash ≡ address_next above address line → named ≡ (if is_season_next above slash then line else season) → IsStanding next slash named (before ++ line ∷ [])
stands_next above address season before line next slash named is n a s =
    let addresses : slash ≡ has_address (before ++ line ∷ []) = a ∙ rw (is.counts, is.addresses) (sym (address_more before line)) in
    record {
      counts = n ∙ ap (λ (k : ℕ). k + 1) is.counts ∙ sym (count_more before line);
      addresses = addresses;
      names = s ∙ rw (is.counts, is.names) (sym (line_next before line slash (sym addresses)));
    }

-- ---- the walk: the lines above at this place, and so many lines to go

pub walk_on : (before : List (List ℕ)) (n k : ℕ) (line : List ℕ) (lines rest end : List (List ℕ)) → n ≡ suc k → lines ≡ line ∷ rest → lines_since before n lines ≡ end
    → lines_since (if is_blank_line line then [] else before ++ line ∷ []) k rest ≡ end
walk_on before n k line lines rest end e f h =
    let whole : lines_since before (suc k) (line ∷ rest) ≡ end = subst (λ (m : ℕ). lines_since before m (line ∷ rest) ≡ end) e (subst (λ (l : List (List ℕ)). lines_since before n l ≡ end) f h) in
    whole

-- no line is left, or no step
pub walk_out : (before : List (List ℕ)) (n : ℕ) (lines end : List (List ℕ)) → lines ≡ [] → lines_since before n lines ≡ end → before ≡ end
walk_out before zero lines end none h = h
walk_out before (suc n) lines end none h =
    let whole : lines_since before (suc n) [] ≡ end = subst (λ (l : List (List ℕ)). lines_since before (suc n) l ≡ end) none h in
    whole

pub no_lines : (bytes : List ℕ) → bytes ≡ [] → lines_of bytes ≡ []
unfolding lines_of
no_lines bytes none = rw none refl
