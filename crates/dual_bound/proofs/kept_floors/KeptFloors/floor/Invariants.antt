use Rattle.std.proofs.Common.{Some}
use Rattle.choice_problem.specs.Bounds.{Closes}
use Rattle.choice_problem.specs.Trees.{vector_at}
use Rattle.dual_bound.specs.Stated.{IsFloorBy, scale_at}
use Rattle.dual_bound.proofs.kept_floors.KeptFloors.floor.Given as goal

abbrev pub invariant-loop-place : goal.invariant-loop-place
invariant-loop-place l = record {
  floor : IsFloorBy l.self.problem l.self.ranges l.self.vectors l.place l.floor.cost l.floor.vector;
  closes : Closes l.self.problem l.self.ranges (vector_at l.self.vectors l.floor.vector) (scale_at l.floor.vector) (Some l.floor.cost);
}
