use Rattle.holding_book.proofs.RepliedLemmas.{reply_lines, legal_lines}
use Rattle.holding_book.proofs.laws.answer_lines.Goals as goal

pub returns-clause-reply : goal.returns-clause-reply
returns-clause-reply c = reply_lines c.shift_bounds.ensures.spelled

pub returns-clause-history : goal.returns-clause-history
returns-clause-history c = legal_lines c.shift_bounds.ensures.spelled c.next_fits.ensures.book
