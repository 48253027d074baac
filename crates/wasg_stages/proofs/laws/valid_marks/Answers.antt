use Rattle.std.proofs.Common.{[]}
use Rattle.wasg_stages.proofs.ProofLemmas.{stages-claims}
use Rattle.wasg_stages.proofs.laws.valid_marks.Goals as goal

pub returns : goal.returns
returns c = λ s cert valid. stages-claims c.proven_stage.ensures s.declaration s.units [] cert.stages valid.stages
