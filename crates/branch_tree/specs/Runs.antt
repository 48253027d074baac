-- Runs of places of listed resources. Contracts of private functions alone cite them.
use Rattle.std.specs.Prelude.{◌≡◌, ℕ, ◌+◌, ◌<◌, ◌≤◌, List, length, slice_index, sum_by}
use Rattle.choice_problem.specs.Loops.{run_uses}
use Rattle.branch_tree.specs.declared.runs.Run.{Run}

-- how many of the runs hold the place
abbrev pub times_held : List Run → ℕ → ℕ
times_held runs i = sum_by (λ (s : Run). run_uses s.from s.to i) runs

-- the run ends at or before the count of places
pub record IsRunBelow (count : ℕ) (s : Run) : Type 0 where
  pub ordered : s.from ≤ s.to
  pub there : s.to ≤ count

-- the runs grew by the places of the listed resources, each as often as the uses of its resource
abbrev pub AppendsRuns : List ℕ → List Run → List Run → (ℕ → ℕ) → Type 0
AppendsRuns listed old new uses = (i : ℕ) → i < length listed →
    times_held new i ≡ times_held old i + uses (slice_index listed i)
