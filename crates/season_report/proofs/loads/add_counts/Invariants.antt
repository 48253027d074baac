use Rattle.season_report.proofs.LoadLemmas.{IsAddedTo}
use Rattle.season_report.proofs.loads.add_counts.Given as goal

abbrev pub invariant-loop-at : goal.invariant-loop-at
invariant-loop-at l = IsAddedTo l.fn.loads l.loads l.counts l.at
