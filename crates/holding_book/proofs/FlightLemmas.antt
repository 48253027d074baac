-- Flights that are the same.
use Rattle.std.proofs.Common.{◌≡◌, ℕ, ◌==◌, ◌&&◌, Bool, true, false, List, [], ◌∷◌, refl, ap, sym, subst}
use borrow.Author.Tests.{eqb-true}
use Rattle.series_model.specs.Submissions.{are_letters}
use Rattle.scr_reader.specs.declared.line.Flight.{Flight}
use Rattle.holding_book.specs.Lines.{is_flight}

pub both_true : (a b : Bool) → (a && b) ≡ true → (a ≡ true) × (b ≡ true)
both_true true true e = (refl, refl)
both_true true false e = cc
both_true false b e = cc

letters-true : (one other : List ℕ) → are_letters one other ≡ true → one ≡ other
letters-true [] [] e = refl
letters-true [] (y ∷ ys) e = cc
letters-true (x ∷ xs) [] e = cc
letters-true (x ∷ xs) (y ∷ ys) e =
    let h = both_true (x == y) (are_letters xs ys) e in
    let head : x ≡ y = eqb-true x y h.0 in
    let tail : xs ≡ ys = letters-true xs ys h.1 in
    cc

one_flight : (a b : List ℕ) (n m s t : ℕ) → a ≡ b → n ≡ m → s ≡ t → let one : Flight = record { airline = a; number = n; suffix = s } in let other : Flight = record { airline = b; number = m; suffix = t } in one ≡ other
one_flight a b n m s t e f g = cc

pub is_flight-true : (one other : Flight) → is_flight one other ≡ true → one ≡ other
is_flight-true one other e =
    let h = both_true (are_letters one.airline other.airline) (one.number == other.number && one.suffix == other.suffix) e in
    let k = both_true (one.number == other.number) (one.suffix == other.suffix) h.1 in
    one_flight one.airline other.airline one.number other.number one.suffix other.suffix (letters-true one.airline other.airline h.0) (eqb-true one.number other.number k.0) (eqb-true one.suffix other.suffix k.1)

-- of two flights that are not the same, no third is both
pub is_flight-apart : (other flight x : Flight) → is_flight other x ≡ true → is_flight flight x ≡ false → is_flight other flight ≡ false
is_flight-apart other flight x is_it is_not =
    elim (is_flight other flight) as (λ b. is_flight other flight ≡ b → b ≡ false) [
      | true ↦ λ e.
          let same : other ≡ flight = is_flight-true other flight e in
          let both : is_flight flight x ≡ true = subst (λ (f : Flight). is_flight f x ≡ true) same is_it in
          cc
      | false ↦ λ e. refl
    ] refl

pub is_flight-same : (other flight x : Flight) → is_flight other flight ≡ true → is_flight other x ≡ is_flight flight x
is_flight-same other flight x e = ap (λ (f : Flight). is_flight f x) (is_flight-true other flight e)

pub is_flight-both : (other flight x : Flight) → is_flight other x ≡ true → is_flight flight x ≡ true → is_flight other flight ≡ true
is_flight-both other flight x is_it also =
    let e : other ≡ x = is_flight-true other x is_it in
    let f : flight ≡ x = is_flight-true flight x also in
    subst (λ (g : Flight). is_flight other g ≡ true) (sym f) is_it
