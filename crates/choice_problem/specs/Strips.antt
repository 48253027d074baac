-- What a strip stands for: `times` runs of `width` resources each, the first at `first`, each next one `gap` further on.
use Rattle.std.specs.Prelude.{ℕ, ◌+◌, ◌*◌, ◌<◌, ◌≤◌, Bool, nat_le, nat_lt, ◌&&◌, List, [], ◌++◌, All, sum_by}
use Rattle.std.specs.List.{range_with_len}
use Rattle.std.proofs.Common.{zero, suc}
use Rattle.choice_problem.specs.declared.strips.Strip.{Strip}
use Rattle.finite_sums.specs.Sums.{count_below}

-- the first resource of run i
abbrev pub run_start : Strip → ℕ → ℕ
run_start s i = s.first + i * s.gap

-- whether run i holds the resource
abbrev pub is_in_run : Strip → ℕ → ℕ → Bool
is_in_run s r i = nat_le (run_start s i) r && nat_lt r (run_start s i + s.width)

-- how many runs of the strip hold the resource
abbrev pub strip_uses : Strip → ℕ → ℕ
strip_uses s r = count_below s.times (λ i. is_in_run s r i)

-- the same over all strips of a part
abbrev pub part_uses : List Strip → ℕ → ℕ
part_uses strips r = sum_by (λ s. strip_uses s r) strips

-- each run of the strip ends below the number of resources
abbrev pub IsStripInRange : ℕ → Strip → Type 0
IsStripInRange resources s = (i : ℕ) → i < s.times → run_start s i + s.width ≤ resources

-- each strip of the part stays within the resources
abbrev pub IsPartInRange : ℕ → List Strip → Type 0
IsPartInRange resources strips = All (IsStripInRange resources) strips

-- the resources of the first n runs, each as often as it comes
abbrev pub run_resources : Strip → ℕ → List ℕ
run_resources s zero = []
run_resources s (suc n) = run_resources s n ++ range_with_len (run_start s n) s.width

-- the resources that the strip stands for
abbrev pub strip_resources : Strip → List ℕ
strip_resources s = run_resources s s.times
