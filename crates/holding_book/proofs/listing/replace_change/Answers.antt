use Rattle.std.proofs.Common.{◌≡◌, ◌++◌, [], List, None, subst, ◌∙◌, sym, refl, arith, append-nil}
use Rattle.holding_book.specs.declared.holding.Holding.{Holding}
use Rattle.holding_book.specs.Private.Steps.{replaced_at, IsListing}
use Rattle.holding_book.proofs.ListingLemmas.{replaced_right}
use Rattle.holding_book.proofs.listing.replace_change.Goals as goal

pub returns-clause-places : goal.returns-clause-places
returns-clause-places c = λ flight.
    let holdings = c.args.holdings.now in
    let others = c.args.others.now in
    let next = c.in_ok-next.next.items in
    let is : next ≡ replaced_at c.args.at others holdings ++ [] = c.in_ok-next.ensures ∙ sym (append-nil (replaced_at c.args.at others holdings)) in
    let held = c.holding_at.result in
    let same = c.requires.flights held c.holding_at.ensures in
    let first = subst (λ (ns : List Holding). IsListing ns held.line.arrival c.in_ok-first.first) c.deref.ensures.value c.in_ok-first.ensures in
    let second = subst (λ (ns : List Holding). IsListing ns held.line.departure c.in_ok-second.second) c.deref-2.ensures.value c.in_ok-second.ensures in
    replaced_right flight holdings c.args.at held others c.requires.at c.holding_at.ensures same [] (omega (arith, c.requires.few)) next is (record { first = c.in_ok-first.first; second = c.in_ok-second.second; third = None; fourth = None }) None None first second (record { lists = refl }) (record { lists = refl }) (λ e. tt)
