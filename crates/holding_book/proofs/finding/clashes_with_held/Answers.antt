use Rattle.std.proofs.Common.{◌||◌, Bool, ◌∙◌, sym, ap, None}
use Rattle.std.specs.List.{list_any}
use Rattle.holding_book.specs.Private.Found.{passes_at, clash_but, stop_places}
use Rattle.holding_book.proofs.FoundLemmas.{clash_placed}
use Rattle.holding_book.proofs.finding.clashes_with_held.Goals as goal

pub returns-then-clashes_at : goal.returns-then-clashes_at
returns-then-clashes_at c =
    let line = c.args.line.now in
    let hs = c.args.holdings.now in
    let y = list_any (passes_at (clash_but c.args.season.now line None) hs) (stop_places line.departure hs) in
    sym (clash_placed c.args.season.now line hs ∙ ap (λ (b : Bool). b || y) (sym c.clashes_at.ensures ∙ c.if-clashes_at.true))

pub returns : goal.returns
returns c =
    let line = c.args.line.now in
    let hs = c.args.holdings.now in
    let y = list_any (passes_at (clash_but c.args.season.now line None) hs) (stop_places line.departure hs) in
    c.clashes_at-2.ensures ∙ sym (clash_placed c.args.season.now line hs ∙ ap (λ (b : Bool). b || y) (sym c.clashes_at.ensures ∙ c.if-clashes_at.false))
