-- What a filter keeps of the first elements of a list.
use Rattle.std.proofs.Common.{◌≡◌, ℕ, ◌≤◌, Bool, ap, arith, List, length, take}
use Rattle.std.specs.Prelude.{filter}
use Rattle.std.proofs.lemmas.List.{length-take}
use Rattle.std.proofs.lemmas.List.Sums.{length-filter, count_by-le-length}

pub filter_short : {X : Type 0} (p : X → Bool) (xs found : List X) (i : ℕ) → found ≡ filter p (take i xs) → length found ≤ length xs
filter_short p xs found i is =
    omega (arith, ap (λ ys. length ys) is, length-filter p (take i xs), count_by-le-length p (take i xs), length-take i xs)
