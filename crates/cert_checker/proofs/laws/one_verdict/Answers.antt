use Rattle.std.proofs.Common.{[]}
use Rattle.cert_checker.proofs.CertificateLemmas.{stages-not_both}
use Rattle.cert_checker.proofs.laws.one_verdict.Goals as goal

pub returns : goal.returns
returns c s cert line reason valid fails =
    stages-not_both c.passing_lines.ensures.passes c.alike_proofs.ensures s.declaration s.units [] cert.version 2 cert.stages line reason valid.form.stages valid.stages fails
