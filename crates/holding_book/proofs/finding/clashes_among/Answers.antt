use Rattle.std.proofs.Common.{get_or, sym, ◌∙◌}
use Rattle.holding_book.specs.Private.Found.{passes_at, clash_but}
use Rattle.holding_book.proofs.FoundLemmas.{any-next, any-here, any-end, at_held}
use Rattle.holding_book.proofs.finding.clashes_among.Goals as goal

pub loop-n-preserved : goal.loop-n-preserved
loop-n-preserved c =
    let test = clash_but c.args.season.now c.args.line.now c.args.but in
    let hs = c.args.holdings.now in
    let places = c.args.places.now in
    let n = c.loop-n.n in
    let fails = at_held test hs (get_or places n 0) c.holding_at-held.result c.holding_at-held.ensures ∙ sym c.clashes_but.ensures ∙ c.if-clashes_but.false in
    any-next (passes_at test hs) places n c.loop-n-test.true c.loop-n.invariant fails

pub returns-then-clashes_but : goal.returns-then-clashes_but
returns-then-clashes_but c =
    let test = clash_but c.args.season.now c.args.line.now c.args.but in
    let hs = c.args.holdings.now in
    let places = c.args.places.now in
    let n = c.loop-n.n in
    let passes = at_held test hs (get_or places n 0) c.holding_at-held.result c.holding_at-held.ensures ∙ sym c.clashes_but.ensures ∙ c.if-clashes_but.true in
    sym (any-here (passes_at test hs) places n c.loop-n-test.true passes)

pub returns : goal.returns
returns c =
    let test = clash_but c.args.season.now c.args.line.now c.args.but in
    let hs = c.args.holdings.now in
    let places = c.args.places.now in
    let n = c.loop-n.n in
    sym (any-end (passes_at test hs) places n c.loop-n.auto.n-end c.loop-n-test.false c.loop-n.invariant)
