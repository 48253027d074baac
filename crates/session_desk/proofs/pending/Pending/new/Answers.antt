use Rattle.std.proofs.Common.{refl, []}
use Rattle.session_desk.proofs.HeldLemmas.{fresh_held, nothing_open}
use Rattle.session_desk.proofs.pending.Pending.new.Goals as goal

pub returns-clause-held : goal.returns-clause-held
returns-clause-held c = fresh_held _ [] nothing_open.0 nothing_open.1 nothing_open.2 c.new.ensures.items refl c.new-2.ensures.items refl refl
