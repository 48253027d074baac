use Rattle.std.proofs.Common.{◌≡◌, ◌+◌, ◌*◌, ◌≤◌, ◌++◌, length, drop}
use Rattle.amend_run.specs.Private.Due.{due_answers, due_entries, book_after}
use Rattle.amend_run.proofs.asked.answer_items.Given as goal

abbrev pub invariant-loop-placed : goal.invariant-loop-placed
invariant-loop-placed l = record {
  answers : l.answers.items ++ due_answers l.book.book (drop l.placed-index l.items) ≡ due_answers l.initial.book.book l.items;
  entries : l.history.items ++ due_entries l.book.book (drop l.placed-index l.items) ≡ l.initial.history.items ++ due_entries l.initial.book.book l.items;
  after : book_after l.book.book (drop l.placed-index l.items) ≡ book_after l.initial.book.book l.items;
  declared : l.book.book.declaration ≡ l.initial.book.book.declaration;
  grown : length l.book.book.holdings ≤ length l.initial.book.book.holdings + 3 * l.placed-index;
}
