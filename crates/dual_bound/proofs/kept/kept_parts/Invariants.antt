use Rattle.std.proofs.Common.{◌≡◌, ℕ, ◌<◌, [], length}
use Rattle.std.specs.Prelude.{slice_index_or, All}
use Rattle.choice_problem.specs.Strips.{IsPartInRange}
use Rattle.dual_bound.specs.Kept.{UseKept, kept_count}
use Rattle.dual_bound.proofs.kept.kept_parts.Given as goal

abbrev pub invariant-loop-part : goal.invariant-loop-part
invariant-loop-part l = record {
  count : length l.kept.items ≡ l.part-index;
  uses : (n : ℕ) → n < l.part-index → UseKept l.problem l.ranks (slice_index_or l.kept.items n []) (slice_index_or l.parts n []);
  there : All (λ strips. IsPartInRange (kept_count l.problem l.ranks) strips) l.kept.items;
}
