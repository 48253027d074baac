use Rattle.std.proofs.Common.{◌≡◌, ◌+◌, ◌++◌, drop}
use Rattle.scr_replies.specs.History.{entries_text, history_text}
use Rattle.scr_replies.proofs.history.put_entries.Given as goal

abbrev pub invariant-loop-i : goal.invariant-loop-i
invariant-loop-i l = l.out.items ++ entries_text l.season (l.i + 1) (drop l.i l.history) ≡ l.initial.out.items ++ history_text l.season l.history
