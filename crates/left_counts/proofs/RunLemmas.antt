-- Uses of runs and strips: what one more run adds, and what is used at all.
use Rattle.std.proofs.Common.{ℕ, ◌+◌, ◌<◌, ◌≤◌, arith}
use Rattle.std.specs.Prelude.{if◌then◌else◌}
use Rattle.std.proofs.lemmas.Grind.{common_steps}
use Rattle.choice_problem.specs.declared.strips.Strip.{Strip}
use Rattle.finite_sums.specs.Sums.{count_below}
use Rattle.choice_problem.specs.Strips.{run_start, is_in_run, strip_uses}
use Rattle.choice_problem.specs.Loops.{run_uses}
use Rattle.finite_sums.proofs.SumLemmas.{sum_below-more_le}

run_le : (s : Strip) (i n r : ℕ) → i < n →
    count_below i (λ j. is_in_run s r j) + run_uses (run_start s i) (run_start s i + s.width) r ≤ count_below n (λ j. is_in_run s r j)
run_le s i n r l = sum_below-more_le n i (λ j. if is_in_run s r j then 1 else 0) l

run_one : (a b r : ℕ) → a ≤ r → r < b → 0 < run_uses a b r
run_one a b r l m = grind (arith, common_steps)

-- what a run of the strip holds, the strip uses
pub run_used : (s : Strip) (i r : ℕ) → i < s.times → run_start s i ≤ r → r < run_start s i + s.width → 0 < strip_uses s r
run_used s i r l from to = omega (arith, run_le s i s.times r l, run_one (run_start s i) (run_start s i + s.width) r from to)
