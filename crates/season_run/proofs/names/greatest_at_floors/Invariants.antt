use Rattle.std.proofs.Common.{◌≡◌, ◌≤◌, ◌⊎◌, take}
use Rattle.std.specs.Prelude.{All, Contains}
use Rattle.cert_format.specs.declared.cert.Floor.{Floor}
use Rattle.season_run.proofs.names.greatest_at_floors.Given as goal

abbrev pub invariant-loop-floor : goal.invariant-loop-floor
invariant-loop-floor l = record {
  most : All (λ (f : Floor). f.vector ≤ l.most) (take l.floor-index l.floors);
  named : (l.most ≡ 0) ⊎ ((floor : Floor) × Contains l.floors floor × (floor.vector ≡ l.most));
}
