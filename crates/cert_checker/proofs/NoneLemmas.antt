-- Lists whose items are all one.
use Rattle.std.proofs.Common.{◌≡◌, ℕ, zero, suc, ◌-◌, refl, ◌∙◌, arith, inl, inr, List, [], ◌∷◌, ◌++◌, length, get_or}
use Rattle.std.proofs.lemmas.Bool.{cases_lt}
use Rattle.std.proofs.lemmas.List.{get_or_append_left, get_or-append_right}

one-item : {X : Type 0} (d : X) (i : ℕ) → get_or (d ∷ []) i d ≡ d
one-item d zero = refl
one-item d (suc i) = refl

-- one more of them
pub all-push : {X : Type 0} (xs : List X) (d : X) → ((i : ℕ) → get_or xs i d ≡ d) → (i : ℕ) → get_or (xs ++ d ∷ []) i d ≡ d
all-push xs d all i = elim (cases_lt i (length xs)) [
  | inl within ↦ get_or_append_left xs (d ∷ []) d i within ∙ all i
  | inr past ↦ get_or-append_right xs (d ∷ []) (length xs) i d refl (omega (arith, past)) ∙ one-item d (i - length xs)
]
