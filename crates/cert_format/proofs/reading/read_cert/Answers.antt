use Rattle.std.proofs.Common.{subst, Result, ℕ}
use Rattle.cert_format.specs.declared.cert.Certificate.{Certificate}
use Rattle.cert_format.specs.Forms.{Gives}
use Rattle.cert_format.proofs.CertLemmas.{is_found, is_read}
use Rattle.cert_format.proofs.FirstBadLemmas.{first_bad_line}
use Rattle.cert_format.proofs.OneBadLineLemmas.{bad_is_named}
use Rattle.cert_format.proofs.PrintLemmas.{is_printable}
use Rattle.cert_format.proofs.reading.read_cert.Goals as goal

pub returns-clause-found : goal.returns-clause-found
returns-clause-found c = is_found c.args.bytes.now c.whole_cert.result c.whole_cert.ensures

pub returns-clause-only : goal.returns-clause-only
returns-clause-only c = λ x is e. subst (λ (r : Result Certificate ℕ). Gives (λ y. y) c.whole_cert.result r) (is_read c.args.bytes.now x is e) c.whole_cert.ensures

pub returns-clause-printable : goal.returns-clause-printable
returns-clause-printable c = is_printable c.args.bytes.now c.whole_cert.result c.requires (is_found c.args.bytes.now c.whole_cert.result c.whole_cert.ensures)

pub returns-clause-first : goal.returns-clause-first
returns-clause-first c = first_bad_line c.args.bytes.now c.whole_cert.result c.whole_cert.ensures

pub returns-clause-bad : goal.returns-clause-bad
returns-clause-bad c = λ line is. bad_is_named c.args.bytes.now line c.whole_cert.result (is_found c.args.bytes.now c.whole_cert.result c.whole_cert.ensures) (first_bad_line c.args.bytes.now c.whole_cert.result c.whole_cert.ensures) is
