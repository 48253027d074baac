-- Texts that are lent.
use Rattle.std.specs.Prelude.{ℕ, zero, suc, List, [], ◌∷◌, map}
use Rattle.std.specs.Borrow.{Bor}

-- what a reference to a text points to
abbrev pub text_in : Bor (List ℕ) → List ℕ
text_in text = text.now

-- so many fields without a byte
abbrev pub empty_fields : ℕ → List (List ℕ)
empty_fields zero = []
empty_fields (suc n) = [] ∷ empty_fields n

-- what references to texts point to
abbrev pub texts_in : List (Bor (List ℕ)) → List (List ℕ)
texts_in texts = map text_in texts
