use Rattle.holding_book.proofs.NextLemmas.{next_fits}
use Rattle.holding_book.proofs.BookLemmas.{next_book}
use Rattle.holding_book.proofs.laws.next_fits.Goals as goal

pub returns-clause-fits : goal.returns-clause-fits
returns-clause-fits c = λ b ask fits can. next_fits c.cut_counts.ensures c.movement_loads.ensures c.timed_movements.ensures.shifts c.free_shift.ensures.free b fits ask can

pub returns-clause-book : goal.returns-clause-book
returns-clause-book c = λ b ask is can. next_book c.cut_counts.ensures c.movement_loads.ensures c.timed_movements.ensures.shifts c.free_shift.ensures.free c.cut_parts.ensures c.shift_bounds.ensures.spelled b ask is can
