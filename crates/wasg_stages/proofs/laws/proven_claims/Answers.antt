use Rattle.wasg_stages.proofs.ProofLemmas.{proof-claims}
use Rattle.wasg_stages.proofs.laws.proven_claims.Goals as goal

pub returns : goal.returns
returns c = proof-claims c.proven_stage.ensures
