use Rattle.amend_journal.proofs.KeptLemmas.{replay_is, after_parts}
use Rattle.amend_journal.proofs.laws.books_after.Goals as goal

pub returns-clause-replay : goal.returns-clause-replay
returns-clause-replay c = replay_is

pub returns-clause-parts : goal.returns-clause-parts
returns-clause-parts c = after_parts
