use Rattle.cert_format.proofs.CountLemmas.{proof_length, cert_most, extra_most}
use Rattle.cert_format.proofs.laws.line_counts.Goals as goal

pub returns-clause-proof : goal.returns-clause-proof
returns-clause-proof c = proof_length

pub returns-clause-cert : goal.returns-clause-cert
returns-clause-cert c = cert_most

pub returns-clause-extra : goal.returns-clause-extra
returns-clause-extra c = extra_most
