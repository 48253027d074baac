use Rattle.std.proofs.Common.{slice_index_or}
use Rattle.amend_journal.specs.Kept.{asks_of}
use Rattle.amend_journal.proofs.CloseLemmas.{kept_unless_seen, seen_rose}
use Rattle.amend_journal.proofs.ledger.JournalLedger.close.Goals as goal

pub returns-clause-kept : goal.returns-clause-kept
returns-clause-kept g c =
    let kept = c.close-book.result.2 in
    let history = c.close-book.result.1.items in
    rw (← c.self.view_is, ← c.close-book.ensures.start, c.into_disk.ensures)
    (λ unbroken. kept_unless_seen kept (asks_of history) history kept.failure c.args.passes.items c.close-book.ensures.agrees.disk c.close-book.ensures.whole unbroken)

pub returns-clause-broken : goal.returns-clause-broken
returns-clause-broken g c = λ k d lt faults ends.
    let kept = c.close-book.result.2 in
    let history = c.close-book.result.1.items in
    rw (← c.self.view_is, ← c.close-book.ensures.start, c.into_disk.ensures)
    (seen_rose kept (asks_of history) history kept.failure (slice_index_or c.args.passes.items k d) c.close-book.ensures.agrees.disk (c.close-book.ensures.told k d lt) faults ends)
