-- Pieces of a text, appended one after another.
use Rattle.std.proofs.Common.{◌≡◌, ℕ, List, ◌++◌, append_assoc, ◌∙◌, ap}
use Rattle.std.specs.Fmt.{decimal}

-- a piece, and what comes behind it
pub step : (s t u a b : List ℕ) → t ≡ s ++ a → u ≡ t ++ b → u ≡ s ++ (a ++ b)
step s t u a b one rest = rest ∙ ap (λ (l : List ℕ). l ++ b) one ∙ append_assoc s a b

-- the same, where the piece is known by another name
pub step_as : (s t u a b other : List ℕ) → a ≡ other → t ≡ s ++ a → u ≡ t ++ b → u ≡ s ++ (other ++ b)
step_as s t u a b other same one rest = step s t u a b one rest ∙ ap (λ (l : List ℕ). s ++ (l ++ b)) same

-- words and a number
pub step_number : (s t u a b : List ℕ) (n m : ℕ) → n ≡ m → t ≡ s ++ (a ++ decimal n) → u ≡ t ++ b → u ≡ s ++ (a ++ (decimal m ++ b))
step_number s t u a b n m same one rest =
    step s t u (a ++ decimal n) b one rest ∙ ap (λ (l : List ℕ). s ++ l) (append_assoc a (decimal n) b) ∙ ap (λ (k : ℕ). s ++ (a ++ (decimal k ++ b))) same
