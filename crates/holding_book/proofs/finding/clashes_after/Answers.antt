use Rattle.std.proofs.Common.{◌||◌, Bool, ◌∙◌, sym, ap, Some}
use Rattle.std.specs.List.{list_any}
use Rattle.holding_book.specs.Private.Found.{passes_at, clash_but, stop_places}
use Rattle.holding_book.proofs.FoundLemmas.{clash_replaced}
use Rattle.holding_book.proofs.finding.clashes_after.Goals as goal

pub returns-then-clashes_with : goal.returns-then-clashes_with
returns-then-clashes_with c =
    let season = c.args.season.now in
    let line = c.args.line.now in
    let hs = c.args.holdings.now in
    let at = c.args.at in
    let others = c.args.others.now in
    let x = list_any (passes_at (clash_but season line (Some at)) hs) (stop_places line.arrival hs) in
    let y = list_any (passes_at (clash_but season line (Some at)) hs) (stop_places line.departure hs) in
    sym (clash_replaced season line at others hs ∙ ap (λ (b : Bool). b || (x || y)) (sym c.clashes_with.ensures ∙ c.if-clashes_with.true))

pub returns-then-clashes_at : goal.returns-then-clashes_at
returns-then-clashes_at c =
    let season = c.args.season.now in
    let line = c.args.line.now in
    let hs = c.args.holdings.now in
    let at = c.args.at in
    let others = c.args.others.now in
    let x = list_any (passes_at (clash_but season line (Some at)) hs) (stop_places line.arrival hs) in
    let y = list_any (passes_at (clash_but season line (Some at)) hs) (stop_places line.departure hs) in
    sym (clash_replaced season line at others hs ∙ ap (λ (b : Bool). b || (x || y)) (sym c.clashes_with.ensures ∙ c.if-clashes_with.false) ∙ ap (λ (b : Bool). b || y) (sym c.clashes_at.ensures ∙ c.if-clashes_at.true))

pub returns : goal.returns
returns c =
    let season = c.args.season.now in
    let line = c.args.line.now in
    let hs = c.args.holdings.now in
    let at = c.args.at in
    let others = c.args.others.now in
    let x = list_any (passes_at (clash_but season line (Some at)) hs) (stop_places line.arrival hs) in
    let y = list_any (passes_at (clash_but season line (Some at)) hs) (stop_places line.departure hs) in
    c.clashes_at-2.ensures ∙ sym (clash_replaced season line at others hs ∙ ap (λ (b : Bool). b || (x || y)) (sym c.clashes_with.ensures ∙ c.if-clashes_with.false) ∙ ap (λ (b : Bool). b || y) (sym c.clashes_at.ensures ∙ c.if-clashes_at.false))
