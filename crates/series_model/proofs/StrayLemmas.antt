-- A header whose season or airport is another is refused, and one that has none such is not.
use Rattle.std.proofs.Common.{◌≡◌, ◌≢◌, ◌+◌, ℕ, true, false, List, [], ◌∷◌, Some, refl, subst, inl, inr}
use Rattle.std.specs.Prelude.{◌==◌}
use Rattle.std.proofs.lemmas.Bool.{cases_Bool, and_parts, and_from, eqb-true, eq-eqb}
use Rattle.slot_text.specs.declared.station.Station.{Station}
use Rattle.season_days.specs.Term.{Term}
use Rattle.season_days.specs.declared.season.Half.{Half}
use Rattle.season_days.specs.declared.season.Half.TheVariants.{Summer, Winter}
use Rattle.season_days.specs.declared.declaration.Declaration.{Declaration}
use Rattle.scr_reader.specs.declared.message.Message.{Message}
use Rattle.series_model.specs.declared.fault.ModelFault.TheVariants.{OtherAirport}
use Rattle.series_model.specs.Submissions.{is_half, is_season, are_letters, is_station, items_fault, message_fault}

half_is : (a : Half) → is_half a a ≡ true
half_is Summer = refl
half_is Winter = refl

season_is : (a : Term) → is_season a a ≡ true
season_is a = and_from (is_half a.half a.half) (a.year == a.year) (half_is a.half) (eq-eqb a.year a.year refl)

letters_are : (xs : List ℕ) → are_letters xs xs ≡ true
letters_are [] = refl
letters_are (x ∷ xs) = and_from (x == x) (are_letters xs xs) (eq-eqb x x refl) (letters_are xs)

letters_same : (xs ys : List ℕ) → are_letters xs ys ≡ true → xs ≡ ys
letters_same [] [] is = refl
letters_same [] (y ∷ ys) is = absurd cc
letters_same (x ∷ xs) [] is = absurd cc
letters_same (x ∷ xs) (y ∷ ys) is =
    let both = and_parts (x == y) (are_letters xs ys) is in
    let head = eqb-true x y both.0 in
    let rest = letters_same xs ys both.1 in
    λ i. head i ∷ rest i

station_other : (a b : Station) → a ≢ b → is_station a b ≡ false
station_other a b other = elim (cases_Bool (is_station a b)) [
  | inl same ↦ absurd (let letters = letters_same a.0 b.0 same in other (λ i. record { 0 = letters i }))
  | inr differs ↦ differs
]

pub other_airport : (d : Declaration) (m : Message) (line : ℕ) → m.season ≡ d.season → m.airport ≢ d.airport → line ≡ m.line + 2 → Some (OtherAirport line) ≡ message_fault d m
other_airport d m line same other at =
    let season : is_season m.season d.season ≡ true = subst (λ (s : Term). is_season m.season s ≡ true) same (season_is m.season) in
    rw (season, station_other m.airport d.airport other, at) refl

pub no_stray : (d : Declaration) (m : Message) → m.season ≡ d.season → m.airport ≡ d.airport → items_fault m.items ≡ message_fault d m
no_stray d m same here =
    let season : is_season m.season d.season ≡ true = subst (λ (s : Term). is_season m.season s ≡ true) same (season_is m.season) in
    let airport : is_station m.airport d.airport ≡ true = subst (λ (s : Station). is_station m.airport s ≡ true) here (letters_are m.airport.0) in
    rw (season, airport) refl
