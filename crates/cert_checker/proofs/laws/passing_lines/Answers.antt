use Rattle.cert_checker.proofs.PassLemmas.{passing-proof, proof-passes}
use Rattle.cert_checker.proofs.laws.passing_lines.Goals as goal

pub returns-clause-proof : goal.returns-clause-proof
returns-clause-proof c = passing-proof

pub returns-clause-passes : goal.returns-clause-passes
returns-clause-passes c = proof-passes c.split_trees.ensures.shape
