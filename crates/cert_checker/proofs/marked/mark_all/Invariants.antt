use Rattle.std.proofs.Common.{◌≡◌, ◌<◌, ℕ, get_or}
use Rattle.std.specs.List.{Contains}
use Rattle.cert_checker.proofs.marked.mark_all.Given as goal

abbrev pub invariant-loop-unit : goal.invariant-loop-unit
invariant-loop-unit l = record {
  most : l.marked.most ≡ l.fn.marked.most;
  all : (k : ℕ) → k < l.unit-index → Contains l.marked.units (get_or l.units k 0);
  stay : (u : ℕ) → Contains l.fn.marked.units u → Contains l.marked.units u;
}
