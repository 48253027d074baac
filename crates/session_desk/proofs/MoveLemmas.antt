-- Items that are taken from the end of one list while their parts come to the end of another.
use Rattle.std.proofs.Common.{◌≡◌, List, [], ◌∷◌, ◌++◌, length, map, reverse, sym, ap, ◌∙◌, append_assoc, append-nil, arith}
use Rattle.std.proofs.lemmas.List.{map_push, reverse-append}

reverse_push : {W Y : Type 0} (f : W → Y) (us vs : List W) (w : W) → us ≡ vs ++ w ∷ [] → reverse (map f us) ≡ f w ∷ reverse (map f vs)
reverse_push f us vs w is =
    ap (λ l. reverse (map f l)) is ∙ ap (λ l. reverse l) (map_push f vs w) ∙ reverse-append (map f vs) (f w ∷ [])

-- the part of one more item
pub moved_over : {W Y : Type 0} (f : W → Y) (ys all : List Y) (us vs : List W) (w : W) → us ≡ vs ++ w ∷ [] → ys ++ reverse (map f us) ≡ all →
    (ys ++ f w ∷ []) ++ reverse (map f vs) ≡ all
moved_over f ys all us vs w is before =
    append_assoc ys (f w ∷ []) (reverse (map f vs)) ∙ ap (λ l. ys ++ l) (sym (reverse_push f us vs w is)) ∙ before

-- where no item is left
pub moved_all : {W Y : Type 0} (f : W → Y) (ys all : List Y) (us : List W) → length us ≡ 0 → ys ++ reverse (map f us) ≡ all → ys ≡ all
moved_all f ys all [] none is = sym (append-nil ys) ∙ is
moved_all f ys all (w ∷ us) none is = absurd (omega (arith, none))
