use Rattle.cert_format.proofs.LengthLemmas.{cert-bytes}
use Rattle.cert_format.proofs.laws.season_bytes.Goals as goal

pub returns : goal.returns
returns c = cert-bytes
