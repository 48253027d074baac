use Rattle.std.proofs.Common.{Ok, subst}
use Rattle.desk_links.specs.Links.{LinkView, SendsBytes}
use Rattle.desk_links.proofs.RealLemmas.{real_sent}
use Rattle.desk_links.proofs.real_link.RealLinkLink.put.Goals as goal

pub returns-in-Ok-clause-sent : goal.returns-in-Ok-clause-sent
returns-in-Ok-clause-sent g c =
    subst (λ (v : LinkView). SendsBytes v c.args.bytes.now (Ok tt) c.note.new.self) c.self.view_is
    (real_sent c.self.inside.record_of c.note.new.self c.args.bytes.now c.self.invariant c.note.ensures)
