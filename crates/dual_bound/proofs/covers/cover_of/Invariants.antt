use Rattle.std.proofs.Common.{◌≡◌, ℕ, ◌<◌, ◌≤◌, [], true, false}
use Rattle.std.specs.Prelude.{slice_index_or, All}
use Rattle.choice_problem.specs.Strips.{part_uses, IsPartInRange}
use Rattle.dual_bound.specs.Covers.{AreHeldIn, cover_uses}
use Rattle.dual_bound.proofs.covers.cover_of.Given as goal

abbrev pub invariant-loop-place : goal.invariant-loop-place
invariant-loop-place l = record {
  covers : (n : ℕ) → n < l.place → slice_index_or l.marks n false ≡ true → (r : ℕ) → part_uses (slice_index_or l.parts n []) r ≤ cover_uses l.cover.items r;
  there : (resources : ℕ) → All (λ strips. IsPartInRange resources strips) l.parts → AreHeldIn resources l.cover.items;
}
