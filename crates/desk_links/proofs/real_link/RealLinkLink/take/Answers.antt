use Rattle.std.proofs.Common.{subst}
use Rattle.desk_links.specs.Links.{LinkView, HasTaken}
use Rattle.desk_links.proofs.RealLemmas.{real_took}
use Rattle.desk_links.proofs.real_link.RealLinkLink.take.Goals as goal

pub returns-in-Ok-clause-taken : goal.returns-in-Ok-clause-taken
returns-in-Ok-clause-taken g c =
    subst (λ (v : LinkView). HasTaken v c.in-Ok.n c.read_some.new.into c.took.new.self) c.self.view_is
    (real_took c.self.inside.record_of c.took.new.self c.read_some.new.into c.in-Ok.n c.self.invariant c.took.ensures c.in-Ok.ensures.0 c.in-Ok.ensures.1)
