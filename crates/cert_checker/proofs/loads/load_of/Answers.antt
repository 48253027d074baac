use Rattle.cert_checker.proofs.loads.load_of.Goals as goal

pub returns-then-has_other-clause-loads : goal.returns-then-has_other-clause-loads
returns-then-has_other-clause-loads c = c.load_by_changes.ensures.loads c.args.changes.now c.requires.loads
