-- Without a night quota and without a capacity line for both kinds, no resource holds both an arrival
-- and a departure.
use Rattle.std.proofs.Common.{◌≡◌, ℕ, ◌-◌, ◌/◌, ◌%◌, ◌&&◌, ◌||◌, nat_lt, Bool, true, false, cond, List, [], ◌∷◌, map, refl, sym, ◌∙◌, subst, inl, inr, ◌⊎◌, Option, Some, None}
use Rattle.std.specs.Prelude.{count_by, is_some}
use Rattle.std.specs.List.{list_any}
use Rattle.std.proofs.lemmas.List.Sums.{sum_by-cons}
use Rattle.season_days.specs.Seasons.{is_on, dates_of}
use Rattle.season_days.specs.declared.day.Period.{Period}
use Rattle.season_days.specs.declared.declaration.Kind.{Kind}
use Rattle.season_days.specs.declared.declaration.Kind.TheVariants.{Arr, Dep, Tot}
use Rattle.season_days.specs.declared.declaration.Night.{Night}
use Rattle.season_days.specs.declared.declaration.Rule.{Rule}
use Rattle.season_days.specs.declared.declaration.TheConstants.{MINUTES_OF_DAY}
use Rattle.scr_reader.specs.declared.line.Stop.{Stop}
use Rattle.capacity_windows.specs.Windows.{Capacity, windows_of, starts_of, quota_from, resource_from, resource_load, holds, is_listed, is_of_kind, stop_movements, movement_on}
use Rattle.capacity_windows.specs.declared.resource.Resource.{Resource}
use Rattle.capacity_windows.specs.declared.resource.Resource.TheVariants.{Window, Nothing}
use Rattle.series_model.specs.Movements.{stop_load}
use Rattle.holding_book.specs.Private.Loads.{is_tot, can_share}

count_none : {X Y : Type 0} (passes : Y → Bool) (f : X → Y) → ((x : X) → passes (f x) ≡ false) → (xs : List X) → count_by passes (map f xs) ≡ 0
count_none passes f none [] = refl
count_none passes f none (x ∷ xs) =
    let c = sum_by-cons (λ y. cond (passes y) 1 0) (f x) (map f xs) in
    c ∙ rw (none x, count_none passes f none xs) refl

neither : (a b : Bool) → (a || b) ≡ false → (a ≡ false) × (b ≡ false)
neither true b e = absurd (cc e)
neither false b e = (refl, e)

no_night : (night : Option Night) → is_some night ≡ false → night ≡ None
no_night None e = refl
no_night (Some night) e = absurd (cc e)

none_held : (a b : Bool) → (a && (b && false)) ≡ false
none_held true true = refl
none_held true false = refl
none_held false b = refl

-- a line that is not for both kinds lacks one of them
one_kind : (kind : Kind) → is_tot kind ≡ false → (is_of_kind kind Arr ≡ false) ⊎ (is_of_kind kind Dep ≡ false)
one_kind Arr e = inr refl
one_kind Dep e = inl refl
one_kind Tot e = absurd (cc e)

module _ (c : Capacity) where
  not_held : (rule : Rule) (day start : ℕ) (kind : Kind) (minute later : ℕ) (period : Period) → is_of_kind rule.kind kind ≡ false → resource_load c (Window rule day start) (stop_movements c kind minute later period) ≡ 0
  not_held rule day start kind minute later period e =
      count_none (holds c (Window rule day start)) (movement_on kind minute later) (λ date. rw e (none_held (is_listed c (movement_on kind minute later date)) (is_on c.season rule.days day))) (dates_of c.season period)

  module _ (one other : ℕ) (more later : ℕ) (period : Period) where
    abbrev IsApart : Resource → Type 0
    IsApart resource = (resource_load c resource (stop_movements c Arr one more period) ≡ 0) ⊎ (resource_load c resource (stop_movements c Dep other later period) ≡ 0)

    window_apart : (rule : Rule) (day start : ℕ) → is_tot rule.kind ≡ false → IsApart (Window rule day start)
    window_apart rule day start e = elim (one_kind rule.kind e) [
      | inl lacks ↦ inl (not_held rule day start Arr one more period lacks)
      | inr lacks ↦ inr (not_held rule day start Dep other later period lacks)
    ]

    apart_from : c.night ≡ None → (rules : List Rule) (r : ℕ) → list_any (λ (rule : Rule). is_tot rule.kind) rules ≡ false → IsApart (resource_from c rules r)
    apart_from none [] r e =
        let nothing : resource_load c Nothing (stop_movements c Arr one more period) ≡ 0 = count_none (holds c Nothing) (movement_on Arr one more) (λ date. refl) (dates_of c.season period) in
        subst (λ (night : Option Night). IsApart (quota_from night r)) (sym none) (inl nothing)
    apart_from none (rule ∷ rules) r e =
        let kinds = neither (is_tot rule.kind) (list_any (λ (other : Rule). is_tot other.kind) rules) e in
        elim (nat_lt r (windows_of c rule)) as (λ b. IsApart (cond b (Window rule (r / starts_of c.step rule) (r % starts_of c.step rule)) (resource_from c rules (r - windows_of c rule)))) [
          | true ↦ window_apart rule (r / starts_of c.step rule) (r % starts_of c.step rule) kinds.0
          | false ↦ apart_from none rules (r - windows_of c rule) kinds.1
        ]

  pub stops_apart : can_share c ≡ false → (a g : Option Stop) (one other : ℕ) (period : Period) (r : ℕ) → (stop_load c Arr a one period r ≡ 0) ⊎ (stop_load c Dep g other period r ≡ 0)
  stops_apart apart None g one other period r = inl refl
  stops_apart apart (Some coming) None one other period r = inr refl
  stops_apart apart (Some coming) (Some going) one other period r =
      let parts = neither (is_some c.night) (list_any (λ (rule : Rule). is_tot rule.kind) c.rules) apart in
      apart_from (one % MINUTES_OF_DAY) (other % MINUTES_OF_DAY) (one / MINUTES_OF_DAY) (other / MINUTES_OF_DAY) period (no_night c.night parts.0) c.rules r parts.1
