-- Questions about flights.
use Rattle.std.proofs.Common.{Bor, Ok, Err, ◌≡◌, ℕ, ◌-◌, true, false, List, [], ◌∷◌, length, take, drop, get_or, Some, None, refl, sym, ap, subst, ◌∙◌, arith, inl, inr}
use Rattle.std.specs.Prelude.{Option, slice_get, IsSome, IfSome}
use Rattle.std.proofs.lemmas.Bool.{both_ways}
use Rattle.std.proofs.Math.Seq.{take-length}
use Rattle.scr_reader.specs.declared.line.Flight.{Flight}
use Rattle.scr_reader.specs.Parts.{IsFlight}
use Rattle.scr_reader.specs.Rows.{is_question, IsAskedFlight, IsQuestion, IsFaultyQuestion}
use Rattle.std.specs.Option.{ok_or, option_copied}

-- ---- questions

pub asked_rest : (text : List ℕ) (flight : Flight) → IsAskedFlight text flight → (get_or text 0 0 ≡ 81) × IsFlight (take (length text - 1) (drop 1 text)) flight
asked_rest [] flight is = absurd is
asked_rest (b ∷ text) flight is =
    let n : length (b ∷ text) - 1 ≡ length text = omega arith in
    let same : take (length (b ∷ text) - 1) text ≡ text = rw n (take-length text) in
    (is.0, subst (λ (t : List ℕ). IsFlight t flight) (sym same) is.1)

pub asks : (fields : List (List ℕ)) (first : List ℕ) (flight : Flight) → Some first ≡ slice_get fields 0 → IsAskedFlight first flight → slice_get fields 1 ≡ None → IsQuestion fields flight
asks [] first flight is asked end = absurd cc
asks (f ∷ []) first flight is asked end =
    let same : first ≡ f = cc in
    (subst (λ (t : List ℕ). IsAskedFlight t flight) same asked, refl)
asks (f ∷ g ∷ fields) first flight is asked end = absurd cc

pub asked_first : (fields : List (List ℕ)) (first : List ℕ) (flight : Flight) → Some first ≡ slice_get fields 0 → IsQuestion fields flight → IsAskedFlight first flight
asked_first [] first flight is asked = absurd asked
asked_first (f ∷ fields) first flight is asked =
    let same : f ≡ first = cc in
    subst (λ (t : List ℕ). IsAskedFlight t flight) same asked.0

pub no_asked : (fields : List (List ℕ)) (first : List ℕ) → Some first ≡ slice_get fields 0 → ((flight : Flight) → IsAskedFlight first flight → ⊥) → IsFaultyQuestion fields 1
no_asked [] first is none = absurd cc
no_asked (f ∷ fields) first is none =
    let same : f ≡ first = cc in
    inl (refl, λ flight asked. none flight (subst (λ (t : List ℕ). IsAskedFlight t flight) same asked))

pub more_than_asked : (fields : List (List ℕ)) (first : List ℕ) (flight : Flight) → Some first ≡ slice_get fields 0 → IsAskedFlight first flight → IsSome (slice_get fields 1) → IsFaultyQuestion fields 2
more_than_asked [] first flight is asked more = absurd cc
more_than_asked (f ∷ []) first flight is asked more = absurd cc
more_than_asked (f ∷ g ∷ fields) first flight is asked more =
    let same : first ≡ f = cc in
    inr (refl, (λ none. absurd (let e = ap (λ (l : List (List ℕ)). length l) none in omega (arith, e))), flight, subst (λ (t : List ℕ). IsAskedFlight t flight) same asked)

pub no_first_asked : (fields : List (List ℕ)) (r : Option (Bor (List ℕ))) (n e : ℕ) → Err e ≡ ok_or r n → option_copied r ≡ slice_get fields 0 → is_question fields ≡ true → ⊥
no_first_asked fields (Some b) n e err got asks = cc
no_first_asked [] None n e err got asks = both_ways false refl asks
no_first_asked (f ∷ fields) None n e err got asks = cc

pub got_first : (fields : List (List ℕ)) (r : Option (Bor (List ℕ))) (b : Bor (List ℕ)) (n : ℕ) → Ok b ≡ ok_or r n → option_copied r ≡ slice_get fields 0 → Some b.now ≡ slice_get fields 0
got_first fields None b n is got = absurd cc
got_first fields (Some x) b n is got =
    let same : b ≡ x = cc in
    ap (λ (y : Bor (List ℕ)). Some y.now) same ∙ got

pub got_flight : (r : Option Flight) (flight : Flight) (n : ℕ) (P : Flight → Type 0) → Ok flight ≡ ok_or r n → IfSome r P → P flight
got_flight None flight n P is has = absurd cc
got_flight (Some x) flight n P is has =
    let same : flight ≡ x = cc in
    subst P (sym same) has

pub same_flight : (r : Option Flight) (flight other : Flight) (n : ℕ) → Ok flight ≡ ok_or r n → r ≡ Some other → flight ≡ other
same_flight r flight other n is e = let whole : Ok flight ≡ ok_or (Some other) n = is ∙ ap (λ (x : Option Flight). ok_or x n) e in cc
