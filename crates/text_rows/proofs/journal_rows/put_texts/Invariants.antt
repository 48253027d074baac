use Rattle.std.proofs.Common.{◌≡◌}
use Rattle.text_rows.proofs.journal_rows.put_texts.Given as goal

abbrev pub invariant-loop-done : goal.invariant-loop-done
invariant-loop-done g l = l.journal.season ≡ l.season
