use Rattle.std.proofs.Common.{◌≡◌, drop}
use Rattle.kept_bounds.specs.Changes.{AgreeBut}
use Rattle.cert_checker.specs.KeptLoads.{IsKeptLoad}
use Rattle.cert_checker.proofs.kept_loads.follow.Given as goal

abbrev pub invariant-loop-unit : goal.invariant-loop-unit
invariant-loop-unit l = record {
  is_kept : IsKeptLoad l.problem l.kept;
  same : l.kept.resource ≡ l.fn.kept.resource;
  others : AgreeBut (drop l.unit-index l.units) l.kept.ranges l.ranges;
}
