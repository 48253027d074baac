use Rattle.std.proofs.Common.{◌∙◌, arith}
use Rattle.holding_book.proofs.LeftLemmas.{left-there, left-is, left-few}
use Rattle.holding_book.proofs.book.Book.left.Goals as goal

pub left-requires : goal.left-requires
left-requires c = left-there c.self.inside.loads c.self.inside.holdings.items c.self.inside.places c.args.self.now _ c.args.resource c.self.view_is c.self.invariant c.requires

pub returns-clause-value : goal.returns-clause-value
returns-clause-value c =
    c.left.ensures ∙ left-is c.self.inside.loads c.self.inside.holdings.items c.self.inside.places c.args.self.now _ c.args.resource c.self.view_is c.self.invariant c.requires

pub returns-clause-few : goal.returns-clause-few
returns-clause-few c =
    omega (arith, c.left.ensures, left-few c.self.inside.loads c.self.inside.holdings.items c.self.inside.places c.args.self.now _ c.args.resource c.self.view_is c.self.invariant c.requires)
