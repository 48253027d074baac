use Rattle.std.proofs.Common.{rules, arith}
use Rattle.season_run.proofs.TrialLemmas.{one-further}
use Rattle.season_run.proofs.trials.one_vector.Goals as goal

pub returns-clause-further : goal.returns-clause-further
returns-clause-further c = one-further c.args.problem.now c.args.vector c.push.new.self.items c.requires (omega (arith, c.resources-resources.ensures.few, c.resources-resources.ensures.count)) (search rules)
