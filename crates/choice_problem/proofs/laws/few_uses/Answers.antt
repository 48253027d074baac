use Rattle.choice_problem.proofs.AllowedLemmas.{few_uses-IsChooser}
use Rattle.choice_problem.proofs.laws.few_uses.Goals as goal

pub returns : goal.returns
returns c = few_uses-IsChooser
