-- Limits by their numbers: one more, those of a line's windows, and the night quota's.
use Rattle.std.proofs.Common.{◌≡◌, ℕ, ◌+◌, ◌-◌, ◌*◌, ◌/◌, ◌%◌, ◌<◌, ◌≤◌, true, false, ap, sym, ◌∙◌, refl, arith, inl, inr, List, [], ◌∷◌, ◌++◌, Some, length, get_or}
use Rattle.std.specs.Prelude.{slice_get, sum_by, All, Option, None, nat_lt, ◌==◌, if◌then◌else◌}
use Rattle.std.specs.Option.{ForSome}
use Rattle.std.proofs.Math.ListN.{get_or-append}
use Rattle.std.proofs.Math.Seq.{get_or-append_seam}
use Rattle.std.proofs.lemmas.Bool.{cases_lt}
use Rattle.std.proofs.lemmas.List.Elements.{All-head, All-tail}
use Rattle.std.proofs.lemmas.List.{length-append}
use Rattle.std.proofs.lemmas.Option.{slice_get-get_or, get_or_from_slice_get}
use Rattle.season_days.specs.Seasons.{date_count, is_on}
use Rattle.season_days.specs.declared.declaration.Night.{Night}
use Rattle.season_days.specs.declared.declaration.Rule.{Rule}
use Rattle.capacity_windows.specs.Windows.{Capacity, IsRule, starts_of, windows_of, quota_from, resource_from, resource_at, day_limit, resource_limit, window_limit}
use Rattle.capacity_windows.specs.Kept.{AreLimits}
use Rattle.capacity_windows.specs.declared.resource.Resource.TheVariants.{Window, Quota, Nothing}
use Rattle.capacity_windows.proofs.NumberLemmas.{quota_at}

-- one limit more
pub next_limit : (c : Capacity) (limits : List ℕ) (limit : ℕ) → AreLimits c limits → window_limit c (length limits) ≡ limit → AreLimits c (limits ++ limit ∷ [])
next_limit c limits limit are is r lt =
    let more = limits ++ limit ∷ [] in
    let long : length more ≡ length limits + 1 = length-append limits (limit ∷ []) in
    let at : slice_get more r ≡ Some (get_or more r 0) = slice_get-get_or more r 0 lt in
    elim (cases_lt r (length limits)) [
      | inl before ↦
          at
          ∙ ap Some (get_or-append limits (limit ∷ []) 0 r before ∙ get_or_from_slice_get limits r (window_limit c r) 0 (are r before))
      | inr past ↦
          let last : r ≡ length limits = omega (arith, long, lt, past) in
          at
          ∙ ap Some (ap (λ (k : ℕ). get_or more k 0) last ∙ get_or-append_seam limits limit [] 0 ∙ sym is ∙ ap (λ (k : ℕ). window_limit c k) (sym last))
    ]

-- some equal limits more
pub equal_limits : (c : Capacity) (old new : List ℕ) (n limit : ℕ) → AreLimits c old → length new ≡ length old + n →
    ((k d : ℕ) → k < length old + n → k < length old → get_or new k d ≡ get_or old k d) → ((k d : ℕ) → length old ≤ k → k < length old + n → get_or new k d ≡ limit) →
    ((start : ℕ) → start < n → window_limit c (length old + start) ≡ limit) → AreLimits c new
equal_limits c old new n limit are long same more is r lt =
    slice_get-get_or new r 0 lt
    ∙ ap Some (elim (cases_lt r (length old)) [
      | inl before ↦
          same r 0 (omega (arith, before)) before ∙ get_or_from_slice_get old r (window_limit c r) 0 (are r before)
      | inr past ↦
          let at : length old + (r - length old) ≡ r = omega (arith, past) in
          more r 0 past (omega (arith, lt, long)) ∙ sym (is (r - length old) (omega (arith, lt, long, past))) ∙ ap (λ (k : ℕ). window_limit c k) at
    ])

-- the limits of a line's windows on a day, where the windows are numbered day by day
pub day_limits : (c : Capacity) (rule : Rule) (first day n now start r : ℕ) → ((day start : ℕ) → day < date_count c.season → start < n → resource_at c (first + day * n + start) ≡ Window rule day start)
    → day < date_count c.season → start < n → now ≡ first + day * n → r ≡ now + start → window_limit c r ≡ day_limit c rule day
day_limits c rule first day n now start r windows in_season lt is at =
    let place : r ≡ first + day * n + start = omega arith in
    ap (λ (k : ℕ). window_limit c k) place ∙ ap (resource_limit c) (windows day start in_season lt)

-- the limit of the night quota
pub night_limit : (c : Capacity) (r : ℕ) (night : Night) → r ≡ sum_by (windows_of c) c.rules → c.night ≡ Some night → window_limit c r ≡ night.limit
night_limit c r night is some = ap (resource_limit c) (quota_at c r is night some)

-- limits are small
quota_small : (c : Capacity) (night : Option Night) (r : ℕ) → ForSome night (λ n. n.limit ≤ 999999) → resource_limit c (quota_from night r) ≤ 999999
quota_small c None r few = omega arith
quota_small c (Some night) r few =
    elim (r == 0) as (λ b. resource_limit c (if b then Quota night else Nothing) ≤ 999999) [
      | true ↦ few night refl
      | false ↦ omega arith
    ]

day_small : (c : Capacity) (rule : Rule) (day : ℕ) → rule.limit ≤ 999999 → day_limit c rule day ≤ 999999
day_small c rule day few =
    elim (is_on c.season rule.days day) as (λ b. (if b then rule.limit else 0) ≤ 999999) [
      | true ↦ few
      | false ↦ omega arith
    ]

pub limit_small : (c : Capacity) (rules : List Rule) (r : ℕ) → All IsRule rules → ForSome c.night (λ n. n.limit ≤ 999999) → resource_limit c (resource_from c rules r) ≤ 999999
limit_small c [] r are few = quota_small c c.night r few
limit_small c (rule ∷ rules) r are few =
    elim (nat_lt r (windows_of c rule)) as (λ b. resource_limit c (if b then Window rule (r / starts_of c.step rule) (r % starts_of c.step rule) else resource_from c rules (r - windows_of c rule)) ≤ 999999) [
      | true ↦ let head = All-head IsRule rule rules are in day_small c rule (r / starts_of c.step rule) (omega (arith, head.limit))
      | false ↦ limit_small c rules (r - windows_of c rule) (All-tail IsRule rule rules are) few
    ]
