-- Units that are marked, each once.
use Rattle.std.proofs.Common.{◌≡◌, ℕ, zero, suc, ◌<◌, refl, arith, List, [], ◌∷◌, length, get_or}

-- an element that is there is the same by any default
pub any-default : (units : List ℕ) (i d e : ℕ) → i < length units → get_or units i d ≡ get_or units i e
any-default [] i d e lt = absurd (omega arith)
any-default (x ∷ units) zero d e lt = refl
any-default (x ∷ units) (suc i) d e lt = any-default units i d e (omega arith)
