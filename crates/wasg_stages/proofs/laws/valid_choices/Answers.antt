use Rattle.std.proofs.Common.{[]}
use Rattle.wasg_stages.proofs.FeasibleLemmas.{stages-feasible}
use Rattle.wasg_stages.proofs.laws.valid_choices.Goals as goal

pub returns : goal.returns
returns c = λ s cert valid. stages-feasible c.one_more_stage.ensures s.declaration s.units [] cert.version cert.stages valid.form.stages valid.stages
