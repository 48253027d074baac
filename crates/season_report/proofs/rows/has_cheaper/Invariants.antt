use Rattle.std.proofs.Common.{ℕ, ◌<◌, ◌≤◌}
use Rattle.choice_problem.specs.Problems.{alt_cost}
use Rattle.season_report.proofs.rows.has_cheaper.Given as goal

abbrev pub invariant-loop-alt : goal.invariant-loop-alt
invariant-loop-alt l = (k : ℕ) → k < l.alt → l.cost ≤ alt_cost l.tried.problem.now l.place k
