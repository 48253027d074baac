use Rattle.amend_journal.proofs.journal.Journal.open.Goals as goal

pub returns-in-Ok-clause-moments : goal.returns-in-Ok-clause-moments
returns-in-Ok-clause-moments g c s file asks reads stands agrees = c.open_file.ensures.moments s file asks reads agrees stands

pub returns-in-Err-clause-moments : goal.returns-in-Err-clause-moments
returns-in-Err-clause-moments g c s file asks reads stands agrees = c.open_file.ensures.moments s file asks reads agrees stands

pub returns-in-Ok-clause-unharmed : goal.returns-in-Ok-clause-unharmed
returns-in-Ok-clause-unharmed g c s file reads agrees = c.open_file.ensures.unharmed s file reads agrees

pub returns-in-Err-clause-unharmed : goal.returns-in-Err-clause-unharmed
returns-in-Err-clause-unharmed g c s file reads agrees = c.open_file.ensures.unharmed s file reads agrees
