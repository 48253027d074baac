use Rattle.season_run.specs.Steps.{AreRunSoFar}
use Rattle.season_run.proofs.seasons.run_season.Given as goal

abbrev pub invariant-loop-stage : goal.invariant-loop-stage
invariant-loop-stage g l = AreRunSoFar l.submission l.budget l.stage l.states.items l.follows l.stages.items
