use Rattle.std.proofs.Common.{arith}
use Rattle.season_run.proofs.RunLemmas.{run-all}
use Rattle.season_run.proofs.seasons.run_stage.Goals as goal

pub returns-clause-run : goal.returns-clause-run
returns-clause-run g c =
    (run-all c.fewer_vectors.ensures.driven c.args.budget c.in_ok-cert.cert c.args.problem.now c.in_ok-end.end c.in_ok-end.ensures c.in_ok-cert.ensures.stage c.in_ok-cert.ensures.proof
    (omega (arith, c.units-units.ensures.few, c.units-units.ensures.count)) (omega (arith, c.resources-resources.ensures.few, c.resources-resources.ensures.count)) c.requires.budget.1).0

pub returns-clause-tried : goal.returns-clause-tried
returns-clause-tried g c =
    (run-all c.fewer_vectors.ensures.driven c.args.budget c.in_ok-cert.cert c.args.problem.now c.in_ok-end.end c.in_ok-end.ensures c.in_ok-cert.ensures.stage c.in_ok-cert.ensures.proof
    (omega (arith, c.units-units.ensures.few, c.units-units.ensures.count)) (omega (arith, c.resources-resources.ensures.few, c.resources-resources.ensures.count)) c.requires.budget.1).1

pub returns-clause-printable : goal.returns-clause-printable
returns-clause-printable g c =
    (run-all c.fewer_vectors.ensures.driven c.args.budget c.in_ok-cert.cert c.args.problem.now c.in_ok-end.end c.in_ok-end.ensures c.in_ok-cert.ensures.stage c.in_ok-cert.ensures.proof
    (omega (arith, c.units-units.ensures.few, c.units-units.ensures.count)) (omega (arith, c.resources-resources.ensures.few, c.resources-resources.ensures.count)) c.requires.budget.1).2

pub returns-clause-limits : goal.returns-clause-limits
returns-clause-limits g c =
    (run-all c.fewer_vectors.ensures.driven c.args.budget c.in_ok-cert.cert c.args.problem.now c.in_ok-end.end c.in_ok-end.ensures c.in_ok-cert.ensures.stage c.in_ok-cert.ensures.proof
    (omega (arith, c.units-units.ensures.few, c.units-units.ensures.count)) (omega (arith, c.resources-resources.ensures.few, c.resources-resources.ensures.count)) c.requires.budget.1).3

pub returns-clause-settled : goal.returns-clause-settled
returns-clause-settled g c =
    (run-all c.fewer_vectors.ensures.driven c.args.budget c.in_ok-cert.cert c.args.problem.now c.in_ok-end.end c.in_ok-end.ensures c.in_ok-cert.ensures.stage c.in_ok-cert.ensures.proof
    (omega (arith, c.units-units.ensures.few, c.units-units.ensures.count)) (omega (arith, c.resources-resources.ensures.few, c.resources-resources.ensures.count)) c.requires.budget.1).4
