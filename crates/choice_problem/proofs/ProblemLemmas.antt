-- What contracts see of a problem's limits.
use Rattle.std.proofs.Common.{◌≡◌, List, [], ◌∷◌, map, refl, ap, arith, pos, negsuc}
use Rattle.std.specs.Prelude.{ℤ, All, ◌≤ℤ◌}
use Rattle.std.proofs.lemmas.List.Elements.{All-head, All-tail}
use Rattle.std.proofs.lemmas.Int.{ints}
use Rattle.choice_problem.specs.Problems.{amount}

-- integers of at least 0 are the numbers that they are
pub map-pos-amount : (zs : List ℤ) → All (λ z. pos 0 ≤ℤ z) zs → zs ≡ map pos (map amount zs)
map-pos-amount [] h = refl
map-pos-amount (pos n ∷ zs) h = ap (λ ys. pos n ∷ ys) (map-pos-amount zs (All-tail (λ z. pos 0 ≤ℤ z) (pos n) zs h))
map-pos-amount (negsuc n ∷ zs) h = absurd (omega (arith, ints, All-head (λ z. pos 0 ≤ℤ z) (negsuc n) zs h))
