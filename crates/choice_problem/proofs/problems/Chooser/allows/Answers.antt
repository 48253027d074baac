use Rattle.choice_problem.proofs.AllowedLemmas.{IsAllowed-IsChooser}
use Rattle.choice_problem.proofs.problems.Chooser.allows.Goals as goal

pub returns-clause-valid : goal.returns-clause-valid
returns-clause-valid c =
    λ t. IsAllowed-IsChooser (record { parts = c.args.parts.now; alts = c.args.alts.now }) (c.is_unit_allowed.ensures.0 t)
