-- Texts of lines.
use Rattle.std.proofs.Common.{ℕ, List, [], ◌∷◌, ◌++◌, codes}
use Rattle.std.specs.Fmt.{decimal}

-- the line of a verdict, by the reason's text
abbrev pub verdict_of : ℕ → List ℕ → List ℕ
verdict_of line reason = codes "NO " ++ (decimal line ++ (32 ∷ (reason ++ (10 ∷ []))))

-- and that on one more stage
abbrev pub extra_of : ℕ → List ℕ → List ℕ
extra_of line reason = codes "NO EXTRA " ++ (decimal line ++ (32 ∷ (reason ++ (10 ∷ []))))
