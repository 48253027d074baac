use Rattle.choice_problem.proofs.DrivenLemmas.{IsDriven-sound, IsDriven-more}
use Rattle.choice_problem.proofs.laws.driven_tree.Goals as goal

pub returns-clause-sound : goal.returns-clause-sound
returns-clause-sound c = IsDriven-sound

pub returns-clause-more : goal.returns-clause-more
returns-clause-more c = IsDriven-more
