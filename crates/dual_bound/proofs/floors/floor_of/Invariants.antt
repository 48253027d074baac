use Rattle.std.proofs.Common.{Some}
use Rattle.choice_problem.specs.Bounds.{Closes}
use Rattle.choice_problem.specs.Trees.{vector_at}
use Rattle.price_table.specs.Tables.{vectors_of}
use Rattle.dual_bound.specs.Stated.{IsFloorBy, scale_at}
use Rattle.dual_bound.proofs.floors.floor_of.Given as goal

abbrev pub invariant-loop-place : goal.invariant-loop-place
invariant-loop-place l = record {
  floor : IsFloorBy l.problem l.ranges (vectors_of l.tables) l.place l.floor.cost l.floor.vector;
  closes : Closes l.problem l.ranges (vector_at (vectors_of l.tables) l.floor.vector) (scale_at l.floor.vector) (Some l.floor.cost);
}
