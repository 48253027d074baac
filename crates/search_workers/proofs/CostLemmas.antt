-- Costs, where no cost counts as greater than every cost.
use Rattle.std.proofs.Common.{◌≡◌, ℕ, min, Option, Some, None, ◌⊎◌, inl, inr, refl, ap, le_refl, le_trans, arith}
use Rattle.incumbent_word.specs.Core.{lesser, AtMost}

pub at_most_refl : (a : Option ℕ) → AtMost a a
at_most_refl None = tt
at_most_refl (Some a) = le_refl a

pub at_most_trans : (a b c : Option ℕ) → AtMost a b → AtMost b c → AtMost a c
at_most_trans None None None h k = tt
at_most_trans None None (Some c) h k = k
at_most_trans None (Some b) c h k = absurd h
at_most_trans (Some a) None None h k = tt
at_most_trans (Some a) None (Some c) h k = absurd k
at_most_trans (Some a) (Some b) None h k = tt
at_most_trans (Some a) (Some b) (Some c) h k = le_trans h k

pub lesser_left : (a b : Option ℕ) → AtMost (lesser a b) a
lesser_left None None = tt
lesser_left None (Some b) = tt
lesser_left (Some a) None = le_refl a
lesser_left (Some a) (Some b) = omega arith

pub lesser_right : (a b : Option ℕ) → AtMost (lesser a b) b
lesser_right None None = tt
lesser_right None (Some b) = le_refl b
lesser_right (Some a) None = tt
lesser_right (Some a) (Some b) = omega arith

pub lesser_none : (a : Option ℕ) → lesser a None ≡ a
lesser_none None = refl
lesser_none (Some a) = refl

pub lesser_either : (a b : Option ℕ) → (lesser a b ≡ a) ⊎ (lesser a b ≡ b)
lesser_either None b = inr refl
lesser_either (Some a) None = inl refl
lesser_either (Some a) (Some b) = let e : (min a b ≡ a) ⊎ (min a b ≡ b) = grind arith in
    elim e [ inl p ↦ inl (ap (λ (x : ℕ). Some x) p) | inr p ↦ inr (ap (λ (x : ℕ). Some x) p) ]
