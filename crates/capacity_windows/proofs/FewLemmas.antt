-- How often a stop uses a resource at most, and how many strips its windows take at most.
use Rattle.std.proofs.Common.{◌≡◌, ℕ, zero, suc, ◌+◌, ◌*◌, ◌≤◌, ◌<◌, Bool, true, false, ◌&&◌, ap, arith, List, [], ◌∷◌, length, take, get_or}
use Rattle.std.specs.Prelude.{if◌then◌else◌, sum_by}
use Rattle.std.proofs.lemmas.List.Sums.{sum_by-cons, sum_by_more}
use Rattle.finite_sums.specs.Sums.{count_below}
use Rattle.finite_sums.proofs.SumLemmas.{count_below-le}
use Rattle.season_days.specs.Seasons.{date_count}
use Rattle.season_days.specs.declared.day.Period.{Period}
use Rattle.season_days.specs.declared.declaration.Kind.{Kind}
use Rattle.season_days.specs.declared.declaration.Rule.{Rule}
use Rattle.capacity_windows.specs.Windows.{Capacity, holds, resource_at, window_load, movement_on, stop_movements, is_of_kind, is_daily, band_strips, rule_strips, most_strips}
use Rattle.capacity_windows.specs.Bands.{is_date}
use Rattle.capacity_windows.proofs.LoadLemmas.{count_dates}

-- at most once a date
pub few_listed : (c : Capacity) (kind : Kind) (minute later : ℕ) (period : Period) (r : ℕ) → period.last.0 < date_count c.season → date_count c.season ≤ 217 → window_load c (stop_movements c kind minute later period) r ≤ 217
few_listed c kind minute later period r within short =
    let test : ℕ → Bool = λ (x : ℕ). is_date c.season period x && holds c (resource_at c r) (movement_on kind minute later x) in
    let counted : window_load c (stop_movements c kind minute later period) r ≡ count_below (date_count c.season) test = count_dates c.season period (movement_on kind minute later) (holds c (resource_at c r)) within in
    let few : count_below (date_count c.season) test ≤ date_count c.season = count_below-le (date_count c.season) test in
    omega (arith, counted, few, short)

-- after one line more
pub few_more : (f : Rule → ℕ) (n m i : ℕ) (xs : List Rule) (d : Rule) → i < length xs → n ≤ sum_by f (take i xs) → m ≤ n + f (get_or xs i d) → m ≤ sum_by f (take (i + 1) xs)
few_more f n m i xs d lt few more = omega (arith, sum_by_more f xs i d lt, few, more)

-- after the last line, and the night quota
few_in_front : (f : Rule → ℕ) (i : ℕ) (rules : List Rule) → sum_by f (take i rules) ≤ sum_by f rules
few_in_front f zero [] = omega arith
few_in_front f zero (rule ∷ rules) = omega arith
few_in_front f (suc i) [] = omega arith
few_in_front f (suc i) (rule ∷ rules) = omega (arith, sum_by-cons f rule (take i rules), sum_by-cons f rule rules, few_in_front f i rules)

pub few_in_all : (f : Rule → ℕ) (n m i : ℕ) (xs ys : List Rule) → n ≤ sum_by f (take i xs) → xs ≡ ys → m ≤ n + 1 → m ≤ sum_by f ys + 1
few_in_all f n m i xs ys few same more =
    let all = ap (sum_by f) same in
    omega (arith, few, few_in_front f i xs, all, more)

band_at_most : (b : Bool) → (if b then 1 else 7) ≤ 7
band_at_most true = omega arith
band_at_most false = omega arith

kind_at_most : (b : Bool) (n : ℕ) → n ≤ 7 → (if b then 2 * n else 0) ≤ 14
kind_at_most true n le = omega (arith, le)
kind_at_most false n le = omega arith

rule_at_most : (kind : Kind) (period : Period) (rule : Rule) → rule_strips kind period rule ≤ 14
rule_at_most kind period rule = kind_at_most (is_of_kind rule.kind kind) (band_strips rule.days period.days) (band_at_most (is_daily rule.days period.days))

few_each : (f : Rule → ℕ) (rules : List Rule) → ((rule : Rule) → f rule ≤ 14) → sum_by f rules ≤ 14 * length rules
few_each f [] h = omega arith
few_each f (rule ∷ rules) h = omega (arith, sum_by-cons f rule rules, h rule, few_each f rules h)

pub few_ever : (c : Capacity) (kind : Kind) (period : Period) → most_strips c kind period ≤ 14 * length c.rules + 1
few_ever c kind period = omega (arith, few_each (rule_strips kind period) c.rules (rule_at_most kind period))
