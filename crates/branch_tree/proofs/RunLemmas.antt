-- Runs of places and how often they hold each.
use Rattle.std.proofs.Common.{◌≡◌, ℕ, ◌+◌, ◌<◌, ◌≤◌, arith, List, [], ◌∷◌, ◌++◌, length, take}
use Rattle.std.specs.Prelude.{slice_index_or}
use Rattle.std.proofs.lemmas.Grind.{common_steps}
use Rattle.std.proofs.lemmas.List.Sums.{sum_by_push, sum_by_more, sum_by_more_le}
use Rattle.choice_problem.specs.Loops.{run_uses}
use Rattle.branch_tree.specs.declared.runs.Run.{Run}
use Rattle.branch_tree.specs.Runs.{times_held}

abbrev none : Run
none = record { from = 0; to = 0 }

pub held-push : (runs : List Run) (s : Run) (i : ℕ) → times_held (runs ++ s ∷ []) i ≡ times_held runs i + run_uses s.from s.to i
held-push runs s i = sum_by_push (λ (t : Run). run_uses t.from t.to i) runs s

pub held-more : (runs : List Run) (k i : ℕ) → k < length runs →
    times_held (take (k + 1) runs) i ≡ times_held (take k runs) i + run_uses (slice_index_or runs k none).from (slice_index_or runs k none).to i
held-more runs k i l = sum_by_more (λ (t : Run). run_uses t.from t.to i) runs k none l

pub held-more_le : (runs : List Run) (k i : ℕ) → k < length runs →
    times_held (take k runs) i + run_uses (slice_index_or runs k none).from (slice_index_or runs k none).to i ≤ times_held runs i
held-more_le runs k i l = sum_by_more_le (λ (t : Run). run_uses t.from t.to i) runs k none l

-- a run of nothing
pub run-none : (a b i : ℕ) → b ≤ a → run_uses a b i ≡ 0
run-none a b i l = grind (arith, common_steps)
