use Rattle.std.proofs.Common.{rules, ◌≡◌, ◌++◌, ◌∷◌, [], List, subst, refl}
use Rattle.holding_book.specs.declared.holding.Holding.{Holding}
use Rattle.holding_book.specs.Private.Steps.{IsListing}
use Rattle.holding_book.proofs.ListingLemmas.{appended}
use Rattle.holding_book.proofs.listing.append_change.Goals as goal

pub returns-clause-places : goal.returns-clause-places
returns-clause-places c = λ flight.
    let new = c.args.new.now in
    let next = c.push.new.self.items in
    let is : next ≡ c.args.holdings.now ++ new ∷ [] = search rules in
    let third = subst (λ (ns : List Holding). IsListing ns new.line.arrival c.in_ok-third.third) c.deref.ensures.value c.in_ok-third.ensures in
    let fourth = subst (λ (ns : List Holding). IsListing ns new.line.departure c.in_ok-fourth.fourth) c.deref-2.ensures.value c.in_ok-fourth.ensures in
    appended flight c.args.holdings.now next new _ is refl refl third fourth
