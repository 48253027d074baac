use Rattle.std.proofs.Common.{◌≡◌, drop}
use Rattle.season_run.specs.Runs.{version_for}
use Rattle.season_run.proofs.seasons.version_for.Given as goal

abbrev pub invariant-loop-cert : goal.invariant-loop-cert
invariant-loop-cert l = version_for l.stages ≡ version_for (drop l.cert-index l.stages)
