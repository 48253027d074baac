use Rattle.cert_format.proofs.ProvenLemmas.{proven}
use Rattle.cert_format.proofs.laws.proven_stage.Goals as goal

pub returns : goal.returns
returns c = proven c.fixed_best.ensures.tree c.sound_tree.ensures.none c.floored_tree.ensures.listed
