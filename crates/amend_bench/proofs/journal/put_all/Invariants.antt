use Rattle.std.proofs.Common.{◌≡◌}
use Rattle.amend_bench.proofs.journal.put_all.Given as goal

abbrev pub invariant-loop : goal.invariant-loop
invariant-loop l = l.journal.season ≡ l.book.book.declaration.season
