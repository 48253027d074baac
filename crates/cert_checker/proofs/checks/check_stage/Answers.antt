use Rattle.cert_checker.proofs.PassLemmas.{stage-proven}
use Rattle.cert_checker.proofs.checks.check_stage.Goals as goal

pub returns-clause-proof : goal.returns-clause-proof
returns-clause-proof c = λ yes. stage-proven c.args.problem.now c.args.cert.now c.args.first c.in_ok-judged.judged.verdict c.requires.stage c.in_ok-judged.ensures.verdict yes
