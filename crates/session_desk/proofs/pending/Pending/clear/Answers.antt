use Rattle.std.proofs.Common.{refl}
use Rattle.session_desk.proofs.HeldLemmas.{fresh_held}
use Rattle.session_desk.proofs.pending.Pending.clear.Goals as goal

pub returns-clause-held : goal.returns-clause-held
returns-clause-held c text e = fresh_held _ text e.lines_left e.bytes_left e.within c.clear.ensures.items refl e.line e.full e.cr
