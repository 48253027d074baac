-- Strips lie in the numbers of the resources, since nothing past these holds a movement.
use Rattle.std.proofs.Common.{◌≡◌, ℕ, ◌+◌, ◌-◌, ◌<◌, ◌≤◌, true, refl, ◌∙◌, ap, arith, inl, inr, List, [], ◌∷◌, Option, Some, None, get_or}
use Rattle.std.specs.Prelude.{All, sum_by, is_some, if◌then◌else◌}
use Rattle.std.proofs.lemmas.Bool.{lt-ltb, le-ltb, le-leb, cases_lt, ne_eqb}
use Rattle.std.proofs.lemmas.List.Sums.{sum_by-cons, get_or-le-sum_by}
use Rattle.choice_problem.specs.declared.strips.Strip.{Strip}
use Rattle.finite_sums.proofs.SumLemmas.{sum_below-more_le}
use Rattle.choice_problem.specs.Strips.{run_start, is_in_run, strip_uses, part_uses, IsPartInRange}
use Rattle.season_days.specs.declared.declaration.Night.{Night}
use Rattle.season_days.specs.declared.declaration.Rule.{Rule}
use Rattle.capacity_windows.specs.declared.movement.Movement.{Movement}
use Rattle.capacity_windows.specs.declared.resource.Resource.{Resource}
use Rattle.capacity_windows.specs.declared.resource.Resource.TheVariants.{Nothing}
use Rattle.capacity_windows.specs.Windows.{Capacity, windows_of, quota_from, resource_from, declared_resources, holds, resource_load, window_load}
use Rattle.capacity_windows.specs.Bands.{IsWide}
use Rattle.capacity_windows.proofs.CountLemmas.{one_if}
use Rattle.capacity_windows.proofs.RestLemmas.{count_by-none}

-- a run of a strip uses its last resource
last_used : (s : Strip) (i : ℕ) → 0 < s.width → i < s.times → 1 ≤ strip_uses s (run_start s i + s.width - 1)
last_used s i wide lt =
    let r = run_start s i + s.width - 1 in
    let inside : is_in_run s r i ≡ true = rw (le-leb (run_start s i) r (omega arith), lt-ltb r (run_start s i + s.width) (omega arith)) refl in
    let one = ap one_if inside in
    omega (arith, sum_below-more_le s.times i (λ k. one_if (is_in_run s r k)) lt, one)

pub in_range : (strips : List Strip) (n : ℕ) → All IsWide strips → ((r : ℕ) → n ≤ r → part_uses strips r ≡ 0) → IsPartInRange n strips
in_range strips n wide none = λ k d lt i below.
    let s = get_or strips k d in
    let r = run_start s i + s.width - 1 in
    let is_wide : 0 < s.width = wide k d lt in
    elim (cases_lt n (run_start s i + s.width)) [
      | inr le ↦ le
      | inl past ↦ absurd (omega (arith, none r (omega (arith, past)), last_used s i is_wide below, get_or-le-sum_by (λ (t : Strip). strip_uses t r) strips k d lt))
    ]

quota_past : (night : Option Night) (r : ℕ) → (if is_some night then 1 else 0) ≤ r → quota_from night r ≡ Nothing
quota_past None r le = refl
quota_past (Some night) r le = rw (ne_eqb r 0 (omega arith)) refl

-- no resource has a number past the last
past_last : (c : Capacity) (rules : List Rule) (r : ℕ) → sum_by (windows_of c) rules + (if is_some c.night then 1 else 0) ≤ r → resource_from c rules r ≡ Nothing
past_last c [] r le = quota_past c.night r (omega (arith, le))
past_last c (rule ∷ rules) r le =
    let sum = sum_by-cons (windows_of c) rule rules in
    rw (le-ltb r (windows_of c rule) (omega (arith, sum, le))) (past_last c rules (r - windows_of c rule) (omega (arith, sum, le)))

pub load_past : (c : Capacity) (list : List Movement) (r : ℕ) → declared_resources c ≤ r → window_load c list r ≡ 0
load_past c list r le = ap (λ (q : Resource). resource_load c q list) (past_last c c.rules r le) ∙ count_by-none (holds c Nothing) list (λ _. refl)
