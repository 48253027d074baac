use Rattle.std.proofs.Common.{ℕ, get_or, sym, ◌∙◌}
use Rattle.holding_book.specs.declared.holding.Holding.{Holding}
use Rattle.holding_book.specs.Lines.{matches}
use Rattle.holding_book.specs.Private.Found.{passes_at}
use Rattle.holding_book.proofs.FoundLemmas.{of-none-next, of-here, of-none-end, at_held}
use Rattle.holding_book.proofs.finding.first_among.Goals as goal

pub loop-n-preserved : goal.loop-n-preserved
loop-n-preserved c =
    let test = λ (n : ℕ) (holding : Holding). matches c.args.season.now c.args.state c.args.line.now holding in
    let places = c.args.places.now in
    let n = c.loop-n.n in
    let fails = at_held test c.args.holdings.now (get_or places n 0) c.holding_at-held.result c.holding_at-held.ensures ∙ sym c.matches.ensures ∙ c.if-matches.false in
    of-none-next (passes_at test c.args.holdings.now) places n c.loop-n-test.true c.loop-n.invariant fails

pub returns-then-matches : goal.returns-then-matches
returns-then-matches c =
    let test = λ (n : ℕ) (holding : Holding). matches c.args.season.now c.args.state c.args.line.now holding in
    let places = c.args.places.now in
    let n = c.loop-n.n in
    let passes = at_held test c.args.holdings.now (get_or places n 0) c.holding_at-held.result c.holding_at-held.ensures ∙ sym c.matches.ensures ∙ c.if-matches.true in
    sym (of-here (passes_at test c.args.holdings.now) places n c.loop-n-test.true c.loop-n.invariant passes)

pub returns : goal.returns
returns c =
    let test = λ (n : ℕ) (holding : Holding). matches c.args.season.now c.args.state c.args.line.now holding in
    let places = c.args.places.now in
    let n = c.loop-n.n in
    sym (of-none-end (passes_at test c.args.holdings.now) places n c.loop-n.auto.n-end c.loop-n-test.false c.loop-n.invariant)
