use Rattle.std.proofs.Common.{subst, Result, ℕ}
use Rattle.cert_format.specs.declared.cert.StageCert.{StageCert}
use Rattle.cert_format.specs.Forms.{Gives}
use Rattle.cert_format.proofs.ExtraLemmas.{extra_is_found, extra_is_read}
use Rattle.cert_format.proofs.FirstBadLemmas.{first_bad_extra_line}
use Rattle.cert_format.proofs.OneBadLineLemmas.{bad_extra_is_named}
use Rattle.cert_format.proofs.PrintLemmas.{extra_is_printable}
use Rattle.cert_format.proofs.extra.read_extra.Goals as goal

pub returns-clause-found : goal.returns-clause-found
returns-clause-found c = extra_is_found c.args.bytes.now c.whole_extra.result c.whole_extra.ensures

pub returns-clause-only : goal.returns-clause-only
returns-clause-only c = λ x is e. subst (λ (r : Result StageCert ℕ). Gives (λ y. y) c.whole_extra.result r) (extra_is_read c.args.bytes.now x is e) c.whole_extra.ensures

pub returns-clause-printable : goal.returns-clause-printable
returns-clause-printable c = extra_is_printable c.args.bytes.now c.whole_extra.result c.requires (extra_is_found c.args.bytes.now c.whole_extra.result c.whole_extra.ensures)

pub returns-clause-first : goal.returns-clause-first
returns-clause-first c = first_bad_extra_line c.args.bytes.now c.whole_extra.result c.whole_extra.ensures

pub returns-clause-bad : goal.returns-clause-bad
returns-clause-bad c = λ line is. bad_extra_is_named c.args.bytes.now line c.whole_extra.result (extra_is_found c.args.bytes.now c.whole_extra.result c.whole_extra.ensures) (first_bad_extra_line c.args.bytes.now c.whole_extra.result c.whole_extra.ensures) is
