use Rattle.holding_book.specs.Private.Steps.{book_with}
use Rattle.holding_book.proofs.AskLemmas.{ready}
use Rattle.holding_book.proofs.book.Book.make_room.Goals as goal

pub new-requires : goal.new-requires
new-requires c =
    let b = book_with c.self.inside.loads.declaration c.self.inside.holdings.items in
    let can = rw (← c.self.view_is) at c.requires.ask in
    let step = rw (← c.self.view_is) at c.requires.step in
    ready b c.args.ask.now c.args.step (c.next_fits.ensures.book b c.args.ask.now c.self.invariant.book can) step
