use Rattle.amend_journal.proofs.MomentLemmas.{looks_join}
use Rattle.amend_journal.proofs.read.read_journal.Goals as goal

pub read_slots-requires-clause-read : goal.read_slots-requires-clause-read
read_slots-requires-clause-read g c κs within = c.in_ok-gate.ensures.read c.args.season.now

pub returns-clause-looks : goal.returns-clause-looks
returns-clause-looks g c = looks_join _ _ _ c.read_head.ensures.looks c.read_slots.ensures.looks
