use Rattle.std.proofs.Common.{rules, ◌<◌, length}
use Rattle.amend_journal.proofs.KeptLemmas.{after_one_more, declared_one_more, few_one_more}
use Rattle.amend_journal.proofs.again.replayed.Goals as goal

pub loop-asked-preserved : goal.loop-asked-preserved
loop-asked-preserved c =
    let pairs = c.args.pairs.now in
    let i = c.loop-asked.asked-index in
    let there : i < length pairs = search rules in
    record {
      book = after_one_more c.args.book.book _ _ pairs i _ there c.loop-asked.invariant.book c.in_ok-_answer.ensures.book;
      declaration = declared_one_more c.next_books.ensures.declaration c.args.book.book.declaration _ _ _ c.in_ok-_answer.ensures.book c.loop-asked.invariant.declaration;
      few = few_one_more c.next_books.ensures.few (length c.args.book.book.holdings) i _ _ _ c.in_ok-_answer.ensures.book c.loop-asked.invariant.few;
    }
