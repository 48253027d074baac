-- The dates of a period as loops over its days find them, with a list for each date.
use Rattle.std.proofs.Common.{◌≡◌, ℕ, ◌+◌, ◌-◌, ◌<◌, ◌≤◌, Bool, true, false, List, [], ◌∷◌, ◌++◌, sym, ap, ◌∙◌, inl, inr}
use Rattle.std.specs.Prelude.{if◌then◌else◌}
use Rattle.std.proofs.lemmas.Bool.{cases_Bool}
use Rattle.std.specs.List.{filter, flat_map}
use Rattle.std.proofs.lemmas.List.{append_assoc, append-nil}
use Rattle.season_days.specs.Seasons.{days_from}

-- the law of the calendar: a day that is a date, one that is none, and no day
abbrev pub DatePasses : Type 0
DatePasses = (test : ℕ → Bool) (day end : ℕ) → day < end → test day ≡ true → filter test (days_from day (end - day)) ≡ day ∷ filter test (days_from (day + 1) (end - (day + 1)))

abbrev pub DateFails : Type 0
DateFails = (test : ℕ → Bool) (day end : ℕ) → day < end → test day ≡ false → filter test (days_from day (end - day)) ≡ filter test (days_from (day + 1) (end - (day + 1)))

abbrev pub DateEnds : Type 0
DateEnds = (test : ℕ → Bool) (day end : ℕ) → end ≤ day → filter test (days_from day (end - day)) ≡ []

pub list_step : DatePasses → DateFails → {X : Type 0} (test : ℕ → Bool) (f : ℕ → List X) (before after all : List X) (day end : ℕ) → day < end → after ≡ before ++ (if test day then f day else [])
    → before ++ flat_map f (filter test (days_from day (end - day))) ≡ all → after ++ flat_map f (filter test (days_from (day + 1) (end - (day + 1)))) ≡ all
list_step passes fails test f before after all day end lt pushed so_far =
    let rest = filter test (days_from (day + 1) (end - (day + 1))) in
    elim (cases_Bool (test day)) [
      | inl on ↦
          let now : after ≡ before ++ f day = rw on at pushed in
          rw now (append_assoc before (f day) (flat_map f rest) ∙ ap (λ (xs : List ℕ). before ++ flat_map f xs) (sym (passes test day end lt on)) ∙ so_far)
      | inr off ↦
          let now : after ≡ before ++ [] = rw off at pushed in
          rw (now, append-nil before) (ap (λ (xs : List ℕ). before ++ flat_map f xs) (sym (fails test day end lt off)) ∙ so_far)
    ]

pub list_end : DateEnds → {X : Type 0} (test : ℕ → Bool) (f : ℕ → List X) (before all : List X) (day end : ℕ) → end ≤ day → before ++ flat_map f (filter test (days_from day (end - day))) ≡ all → before ≡ all
list_end ends test f before all day end le so_far =
    sym (append-nil before) ∙ ap (λ (xs : List ℕ). before ++ flat_map f xs) (sym (ends test day end le)) ∙ so_far
