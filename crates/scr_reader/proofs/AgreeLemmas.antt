-- The parts of a line, one after the other, and the first that has not its form.
use Rattle.std.proofs.Common.{◌≡◌, ℕ, zero, suc, ◌-◌, ◌<◌, List, [], ◌∷◌, length, take, Some, None, refl, ap, subst, arith}
use Rattle.std.specs.Prelude.{slice_get, IsSomeAnd, IsSome}
use Rattle.std.proofs.lemmas.Option.{same_Some}
use Rattle.season_days.specs.Term.{Term}
use Rattle.scr_reader.specs.declared.line.Line.{Line}
use Rattle.scr_reader.specs.Shapes.{Shape, Part, parts_of, shape_of, Says, Agree, HasShape, IsLine, IsFaultyField}

-- what a field says, of a line that agrees with it
pub said_in : (season : Term) (line : Line) (part : Part) (k m : ℕ) (parts : List Part) (fields : List (List ℕ)) → k < m → slice_get parts k ≡ Some part → Agree season (take m parts) fields line
    → IsSomeAnd (slice_get fields k) (λ text. Says season part text line)
said_in season line part k zero parts fields lt is agree = absurd (omega (arith, lt))
said_in season line part zero (suc m) [] fields lt is agree = absurd cc
said_in season line part (suc k) (suc m) [] fields lt is agree = absurd cc
said_in season line part zero (suc m) (p ∷ parts) [] lt is agree = absurd agree
said_in season line part (suc k) (suc m) (p ∷ parts) [] lt is agree = absurd agree
said_in season line part zero (suc m) (p ∷ parts) (text ∷ fields) lt is agree = rw (← same_Some p part is) agree.0
said_in season line part (suc k) (suc m) (p ∷ parts) (text ∷ fields) lt is agree = said_in season line part k m parts fields (omega (arith, lt)) is agree.1

-- and the other way, one field more
pub agree_more : (season : Term) (line : Line) (part : Part) (k : ℕ) (parts : List Part) (fields : List (List ℕ)) → slice_get parts k ≡ Some part → Agree season (take k parts) fields line
    → IsSomeAnd (slice_get fields k) (λ text. Says season part text line) → Agree season (take (suc k) parts) fields line
agree_more season line part zero [] fields is agree said = absurd cc
agree_more season line part (suc k) [] fields is agree said = absurd cc
agree_more season line part zero (p ∷ parts) [] is agree said = absurd said
agree_more season line part (suc k) (p ∷ parts) [] is agree said = absurd agree
agree_more season line part zero (p ∷ parts) (text ∷ fields) is agree said = (rw (same_Some p part is) said, tt)
agree_more season line part (suc k) (p ∷ parts) (text ∷ fields) is agree said = (agree.0, agree_more season line part k parts fields is agree.1 said)

-- the field after those that a line agrees with has not its form
pub faulty : (season : Term) (fields : List (List ℕ)) (shape : Shape) (k : ℕ) (good : Line) → shape_of fields ≡ shape → HasShape shape good → Agree season (take k (parts_of shape)) fields good
    → ((line : Line) → HasShape shape line → Agree season (take (suc k) (parts_of shape)) fields line → ⊥) → IsFaultyField season fields (suc k)
faulty season fields shape k good is has agree refused =
    let before : suc k - 1 ≡ k = omega arith in
    record {
      good = good;
      before = rw before (record { shape = rw is has; said = rw is agree });
      at = λ line agrees. absurd (refused line (subst (λ (s : Shape). HasShape s line) is agrees.shape) (subst (λ (s : Shape). Agree season (take (suc k) (parts_of s)) fields line) is agrees.said));
    }

reaches : (fields : List (List ℕ)) (k : ℕ) → IsSome (slice_get fields k) → k < length fields
reaches [] k some = absurd cc
reaches (a ∷ fields) zero some = omega arith
reaches (a ∷ fields) (suc k) some = omega (arith, reaches fields k some)

-- all parts are good, and there is a field more
pub too_many : (season : Term) (fields : List (List ℕ)) (shape : Shape) (k : ℕ) (good : Line) → shape_of fields ≡ shape → HasShape shape good → k ≡ length (parts_of shape) → Agree season (take k (parts_of shape)) fields good → IsSome (slice_get fields k)
    → IsFaultyField season fields (suc k)
too_many season fields shape k good is has all agree more =
    let before : suc k - 1 ≡ k = omega arith in
    record {
      good = good;
      before = rw before (record { shape = rw is has; said = rw is agree });
      at = λ line agrees. (rw (is, ← all) (omega arith), rw (is, ← all) (reaches fields k more));
    }

ends_after : (fields : List (List ℕ)) (k : ℕ) (P : List ℕ → Type 0) → IsSomeAnd (slice_get fields k) P → slice_get fields (suc k) ≡ None → length fields ≡ suc k
ends_after [] k P some none = absurd some
ends_after (a ∷ []) zero P some none = refl
ends_after (a ∷ b ∷ fields) zero P some none = absurd cc
ends_after (a ∷ fields) (suc k) P some none = ap (λ (n : ℕ). suc n) (ends_after fields k P some none)

-- all parts are good, and no field more
pub whole_line : (season : Term) (fields : List (List ℕ)) (shape : Shape) (k : ℕ) (part : Part) (line : Line) → shape_of fields ≡ shape → HasShape shape line → suc k ≡ length (parts_of shape) → slice_get (parts_of shape) k ≡ Some part
    → Agree season (take (suc k) (parts_of shape)) fields line → slice_get fields (suc k) ≡ None → IsLine season fields line
whole_line season fields shape k part line is has all at agree end =
    let last = said_in season line part k (suc k) (parts_of shape) fields (omega arith) at agree in
    record {
      agrees = rw (is, ← all) (record { shape = rw is has; said = rw is agree });
      count = rw (is, ← all) (ends_after fields k (λ text. Says season part text line) last end);
    }

pub shape_said : (season : Term) (fields : List (List ℕ)) (shape : Shape) (line : Line) → shape_of fields ≡ shape → IsLine season fields line → HasShape shape line × Agree season (take (length (parts_of shape)) (parts_of shape)) fields line
shape_said season fields shape line is whole =
    (subst (λ (s : Shape). HasShape s line) is whole.agrees.shape, subst (λ (s : Shape). Agree season (take (length (parts_of s)) (parts_of s)) fields line) is whole.agrees.said)
