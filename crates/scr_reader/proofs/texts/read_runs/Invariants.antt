use Rattle.std.proofs.Common.{length, ◌-◌}
use Rattle.scr_reader.proofs.TextLemmas.{Progress}
use Rattle.scr_reader.proofs.texts.read_runs.Given as goal

abbrev pub invariant-loop-at : goal.invariant-loop-at
invariant-loop-at l = Progress l.lines l.messages.items l.at

abbrev pub decreases-loop-at : goal.decreases-loop-at
decreases-loop-at l = length l.lines - l.at
