use Rattle.std.proofs.Common.{◌++◌, ◌∷◌, [], subst, sym, refl}
use Rattle.season_days.specs.Capacity.{capacity_of}
use Rattle.series_model.specs.TimedLines.{line_movements}
use Rattle.holding_book.specs.Books.{season_of}
use Rattle.holding_book.specs.Asks.{AskOutcome}
use Rattle.holding_book.specs.Private.Uses.{AreUsesOf}
use Rattle.holding_book.specs.Private.Steps.{held_book}
use Rattle.holding_book.proofs.RowLemmas.{made, append_gives}
use Rattle.holding_book.proofs.rows.append_step.Goals as goal

pub returns : goal.returns
returns c =
    let b = held_book c.args.loads.now c.args.holdings.now in
    let new = c.args.new.now in
    let o : AskOutcome = record { answer = c.args.answer; holdings = b.holdings ++ new ∷ [] } in
    let taken = subst (AreUsesOf (capacity_of b.declaration) (line_movements (season_of b) new.line)) (sym c.in_ok-change.ensures.taken) c.in_ok-taken.ensures in
    made b o _ c.in_ok-change.change refl (append_gives b new c.in_ok-change.change c.requires.few c.in_ok-change.ensures.holdings c.in_ok-change.ensures.places c.in_ok-change.ensures.freed taken)
