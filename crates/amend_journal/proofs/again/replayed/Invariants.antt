use Rattle.std.proofs.Common.{◌≡◌, ◌≤◌, ◌+◌, ◌*◌, take, length}
use Rattle.amend_journal.specs.Kept.{book_after}
use Rattle.amend_journal.proofs.again.replayed.Given as goal

abbrev pub invariant-loop-asked : goal.invariant-loop-asked
invariant-loop-asked l = record {
  book : l.book.book ≡ book_after l.fn.book.book (take l.asked-index l.pairs);
  declaration : l.book.book.declaration ≡ l.fn.book.book.declaration;
  few : length l.book.book.holdings ≤ length l.fn.book.book.holdings + 3 * l.asked-index;
}
