use Rattle.std.proofs.Common.{◌≡◌, ◌+◌, drop}
use Rattle.cert_checker.proofs.CertificateLemmas.{IsOn}
use Rattle.cert_checker.proofs.checks.check_blocks.Given as goal

abbrev pub invariant-loop-block : goal.invariant-loop-block
invariant-loop-block l = record {
  stage : l.stage ≡ l.block-index + 1;
  on : IsOn l.submission l.cert l.stage l.states.items l.follows l.line (drop l.block-index l.cert.stages);
}
