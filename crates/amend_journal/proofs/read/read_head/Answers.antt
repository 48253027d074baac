use Rattle.amend_journal.proofs.ReadLemmas.{has_head}
use Rattle.amend_journal.proofs.read.read_head.Goals as goal

pub returns-then-is_header-clause-read : goal.returns-then-is_header-clause-read
returns-then-is_header-clause-read g c =
    has_head (g.K.Disk.view c.args.disk.now).log (g.K.Disk.view c.read.new.self).log c.read.new.into c.args.size c.joined_calls.ensures.read c.joined_calls.ensures.shown
    c.in_ok-read.ensures.log c.read.ensures.whole c.requires.sized c.requires.long (c.is_header.ensures.0 c.if-is_header.true)
