use Rattle.holding_book.proofs.HistoryLemmas.{replay-declaration, replay-book}
use Rattle.holding_book.proofs.laws.replays_fit.Goals as goal

pub returns-clause-declaration : goal.returns-clause-declaration
returns-clause-declaration c = replay-declaration

pub returns-clause-book : goal.returns-clause-book
returns-clause-book c = replay-book c.next_fits.ensures.book
