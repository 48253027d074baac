use Rattle.std.proofs.Common.{rules, ◌≡◌, ◌++◌, ◌∷◌, [], List, subst, arith}
use Rattle.holding_book.specs.declared.holding.Holding.{Holding}
use Rattle.holding_book.specs.Private.Steps.{replaced_at, IsListing}
use Rattle.holding_book.proofs.ListingLemmas.{replaced_right}
use Rattle.holding_book.proofs.listing.swap_change.Goals as goal

pub returns-clause-places : goal.returns-clause-places
returns-clause-places c = λ flight.
    let holdings = c.args.holdings.now in
    let others = c.args.others.now in
    let new = c.args.new.now in
    let next = c.push.new.self.items in
    let is : next ≡ replaced_at c.args.at others holdings ++ new ∷ [] = search rules in
    let held = c.holding_at.result in
    let same = c.requires.flights held c.holding_at.ensures in
    let first = subst (λ (ns : List Holding). IsListing ns held.line.arrival c.in_ok-list_stop.field-0) c.deref.ensures.value c.in_ok-list_stop.ensures in
    let second = subst (λ (ns : List Holding). IsListing ns held.line.departure c.in_ok-list_stop-2.field-0) c.deref-2.ensures.value c.in_ok-list_stop-2.ensures in
    let third = subst (λ (ns : List Holding). IsListing ns new.line.arrival c.in_ok-list_stop-3.field-0) c.deref-3.ensures.value c.in_ok-list_stop-3.ensures in
    let fourth = subst (λ (ns : List Holding). IsListing ns new.line.departure c.in_ok-list_stop-4.field-0) c.deref-4.ensures.value c.in_ok-list_stop-4.ensures in
    replaced_right flight holdings c.args.at held others c.requires.at c.holding_at.ensures same (new ∷ []) (omega (arith, c.requires.few)) next is
    (record { first = c.in_ok-list_stop.field-0; second = c.in_ok-list_stop-2.field-0; third = c.in_ok-list_stop-3.field-0; fourth = c.in_ok-list_stop-4.field-0 })
    new.line.arrival new.line.departure first second third fourth (λ e. (e, tt))
