use Rattle.cert_checker.proofs.CertificateLemmas.{check-valid}
use Rattle.cert_checker.proofs.checks.check.Goals as goal

pub returns-clause-valid : goal.returns-clause-valid
returns-clause-valid c =
    let s = c.args.submission.now in
    let cert = c.args.cert.now in
    check-valid s cert c.in_ok-verdict.verdict (λ line reason valid fails. c.one_verdict.ensures s cert line reason valid fails) c.in_ok-verdict.ensures

pub returns-clause-marks : goal.returns-clause-marks
returns-clause-marks c = λ yes.
    let s = c.args.submission.now in
    let cert = c.args.cert.now in
    c.valid_marks.ensures s cert
    ((check-valid s cert c.in_ok-verdict.verdict (λ line reason valid fails. c.one_verdict.ensures s cert line reason valid fails) c.in_ok-verdict.ensures).0 yes)
