use Rattle.season_run.proofs.RunLemmas.{tried-run, fits-season}
use Rattle.season_run.proofs.seasons.tried_stage.Goals as goal

pub returns-clause-run : goal.returns-clause-run
returns-clause-run g c =
    tried-run c.args.submission.now.declaration c.args.stage c.args.states.now c.args.budget c.in_ok-cert.cert c.in_ok-problem.problem c.in_ok-problem.ensures c.in_ok-cert.ensures.run
    c.in_ok-cert.ensures.settled

pub returns-clause-fits : goal.returns-clause-fits
returns-clause-fits g c = fits-season c.in_ok-cert.cert c.in_ok-cert.ensures.tried c.in_ok-cert.ensures.printable c.in_ok-cert.ensures.limits
