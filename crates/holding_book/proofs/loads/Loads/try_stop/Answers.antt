use Rattle.holding_book.proofs.SearchLemmas.{within}
use Rattle.holding_book.proofs.loads.Loads.try_stop.Goals as goal

pub has_uses-fits-requires-clause-one : goal.has_uses-fits-requires-clause-one
has_uses-fits-requires-clause-one c = within c.self.inside.declaration c.self.inside.windows c.self.inside.left c.args.self.now c.self.view_is c.self.invariant c.in_ok-part.part c.in_ok-part.ensures.there
