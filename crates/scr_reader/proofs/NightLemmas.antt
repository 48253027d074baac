-- Nights and rising digits, from their spelling back to their value.
use Rattle.std.proofs.Common.{◌≡◌, ℕ, ◌-◌, ◌<◌, true, false, List, [], ◌∷◌, ◌++◌, refl, sym, ap, ◌∙◌, arith, inl, inr, Some, None}
use Rattle.schedule_text.specs.Times.{digit}
use Rattle.std.specs.Prelude.{Option}
use Rattle.std.proofs.lemmas.Bool.{cases_Bool}
use Rattle.std.proofs.lemmas.Bool.Decides.{nat_tests}
use Rattle.slot_text.specs.Stations.{IsStation}
use Rattle.slot_text.specs.declared.station.Station.{Station}
use Rattle.scr_reader.specs.Bytes.{is_digit}
use Rattle.scr_reader.specs.Parts.{IsNights, StationsFit, stations_text}
use Rattle.scr_reader.specs.Private.FieldForms.{leading_nights, after_nights}

-- ---- nights

pub nights_split : (text : List ℕ) → (nights : List ℕ) × IsNights nights (leading_nights text) × (text ≡ nights ++ after_nights text)
nights_split [] = ([], inl (refl, refl), refl)
nights_split (b ∷ text) =
    elim (cases_Bool (is_digit b)) [
      | inl is ↦
          let same : b ≡ digit (b - 48) = grind (arith, nat_tests, is) in
          let few : b - 48 < 10 = grind (arith, nat_tests, is) in
          (digit (b - 48) ∷ [], rw is (inr (few, refl)), rw is (ap (λ (x : ℕ). x ∷ text) same))
      | inr not_digit ↦ ([], rw not_digit (inl (refl, refl)), rw not_digit refl)
    ]

-- letters begin with no digit
letters_ahead : (near : List ℕ) → IsStation near → (b : ℕ) × (rest : List ℕ) × (near ≡ b ∷ rest) × (is_digit b ≡ false)
letters_ahead [] fits = absurd fits
letters_ahead (a ∷ []) fits = absurd fits
letters_ahead (a ∷ b ∷ []) fits = absurd fits
letters_ahead (a ∷ b ∷ c ∷ []) fits = (a, b ∷ c ∷ [], refl, grind (arith, nat_tests, fits))
letters_ahead (a ∷ b ∷ c ∷ d ∷ near) fits = absurd fits

stations_ahead : (near : Station) (far : Option Station) → StationsFit near far → (b : ℕ) × (rest : List ℕ) × (stations_text near far ≡ b ∷ rest) × (is_digit b ≡ false)
stations_ahead near None fits = letters_ahead near.0 fits
stations_ahead near (Some far) fits =
    let first = letters_ahead near.0 fits.0 in
    (first.0, first.1 ++ far.0, ap (λ (l : List ℕ). l ++ far.0) first.2, first.3)

digit_is : (n : ℕ) → n < 10 → (is_digit (digit n) ≡ true) × (digit n - 48 ≡ n)
digit_is n lt = (grind (arith, nat_tests), omega arith)

pub nights_again : (nights text : List ℕ) (n : ℕ) (near : Station) (far : Option Station) → IsNights nights n → StationsFit near far → text ≡ nights ++ stations_text near far
    → (leading_nights text ≡ n) × (after_nights text ≡ stations_text near far)
nights_again nights text n near far (inl none) fits e =
    let ahead = stations_ahead near far fits in
    let whole : text ≡ ahead.0 ∷ ahead.1 = e ∙ ap (λ (l : List ℕ). l ++ stations_text near far) none.0 ∙ ahead.2 in
    (rw (whole, ahead.3) (sym none.1), rw (whole, ahead.3) (sym ahead.2))
nights_again nights text n near far (inr one) fits e =
    let is = digit_is n one.0 in
    let whole : text ≡ digit n ∷ stations_text near far = e ∙ ap (λ (l : List ℕ). l ++ stations_text near far) one.1 in
    (rw (whole, is.0) is.1, rw (whole, is.0) refl)
