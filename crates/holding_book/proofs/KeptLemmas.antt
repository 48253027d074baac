-- The places of all holdings, one holding after the other.
use Rattle.std.proofs.Common.{◌≡◌, ℕ, ◌&&◌, ◌||◌, not, Bool, true, false, cond, List, [], ◌∷◌, ◌++◌, refl, sym, ap, ◌∙◌, subst, append-nil, Option}
use Rattle.scr_reader.specs.declared.line.Flight.{Flight}
use Rattle.scr_reader.specs.declared.line.Stop.{Stop}
use Rattle.holding_book.specs.Lines.{is_flight, has_stop_flight}
use Rattle.holding_book.proofs.FlightLemmas.{is_flight-true}

pub both_stops : (a d : Bool) (places : List ℕ) (place : ℕ) → (places ++ cond (a && not false) (place ∷ []) []) ++ cond (d && not a) (place ∷ []) [] ≡ places ++ cond (a || d) (place ∷ []) []
both_stops true true places place = append-nil (places ++ place ∷ [])
both_stops true false places place = append-nil (places ++ place ∷ [])
both_stops false true places place = ap (λ (t : List ℕ). t ++ place ∷ []) (append-nil places)
both_stops false false places place = append-nil (places ++ [])

module _ (flight own : Flight) (other : Option Stop) (place : ℕ) where
  -- the flight of the other stop has the place already
  pub stop_listed : (places : List ℕ) → has_stop_flight own other ≡ true → places ≡ places ++ cond (is_flight flight own && not (has_stop_flight flight other)) (place ∷ []) []
  stop_listed places e = elim (is_flight flight own) as (λ b. is_flight flight own ≡ b → places ≡ places ++ cond (b && not (has_stop_flight flight other)) (place ∷ []) []) [
    | true ↦ λ is.
        let has : has_stop_flight flight other ≡ true = subst (λ (f : Flight). has_stop_flight f other ≡ true) (sym (is_flight-true flight own is)) e in
        rw has (sym (append-nil places))
    | false ↦ λ is. sym (append-nil places)
  ] refl

  pub stop_added : (kept : Flight → List ℕ) (list : List ℕ) → list ≡ kept own ++ place ∷ [] → has_stop_flight own other ≡ false → cond (is_flight flight own) list (kept flight) ≡ kept flight ++ cond (is_flight flight own && not (has_stop_flight flight other)) (place ∷ []) []
  stop_added kept list is e = elim (is_flight flight own) as (λ b. is_flight flight own ≡ b → cond b list (kept flight) ≡ kept flight ++ cond (b && not (has_stop_flight flight other)) (place ∷ []) []) [
    | true ↦ λ it.
        let f : own ≡ flight = sym (is_flight-true flight own it) in
        let has : has_stop_flight flight other ≡ false = subst (λ (g : Flight). has_stop_flight g other ≡ false) f e in
        rw has (is ∙ ap (λ (g : Flight). kept g ++ place ∷ []) f)
    | false ↦ λ it. sym (append-nil (kept flight))
  ] refl
