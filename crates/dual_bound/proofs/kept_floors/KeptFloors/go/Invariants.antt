use Rattle.std.proofs.Common.{◌≡◌, take, length}
use Rattle.dual_bound.proofs.kept_floors.KeptFloors.go.Given as goal

abbrev pub invariant-loop-unit : goal.invariant-loop-unit
invariant-loop-unit l = record {
  problem : l.self.problem ≡ l.fn.self.problem;
  vectors : l.self.vectors ≡ l.fn.self.vectors;
  front : take l.unit l.self.ranges ≡ take l.unit l.ranges;
  count : length l.self.ranges ≡ length l.ranges;
}
