use Rattle.std.proofs.Common.{◌≡◌, List, sym, ap, subst}
use Rattle.std.specs.Prelude.{All}
use Rattle.season_days.specs.Term.{Term}
use Rattle.season_days.specs.declared.declaration.Declaration.{Declaration}
use Rattle.scr_reader.specs.Printed.{LineFits}
use Rattle.holding_book.specs.declared.holding.Holding.{Holding}
use Rattle.amend_bench.proofs.usage.watched.Goals as goal

-- the lines fit, as those of each book do
pub watch-requires-clause-fit : goal.watch-requires-clause-fit
watch-requires-clause-fit c =
    let b = c.args.book.now.book in
    let season : c.declaration.result.now.season ≡ b.declaration.season = ap (λ (d : Declaration). d.season) c.declaration.ensures.value in
    subst (λ (hs : List Holding). All (λ (h : Holding). LineFits c.declaration.result.now.season h.line) hs) (sym c.holdings.ensures)
    (subst (λ (t : Term). All (λ (h : Holding). LineFits t h.line) b.holdings) (sym season) c.declaration.ensures.book.lines)
