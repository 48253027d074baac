use Rattle.holding_book.proofs.book.Book.best_option.Goals as goal

pub returns : goal.returns
returns c = rw (← c.self.view_is) (rw c.deref.ensures.value at c.best_line.ensures)
