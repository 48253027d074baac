use Rattle.std.proofs.Common.{◌≡◌, length}
use Rattle.std.specs.Prelude.{All}
use Rattle.series_model.specs.Stages.{AreStates}
use Rattle.season_report.specs.Decisions.{states_before}
use Rattle.season_report.specs.Private.{IsAnswered}
use Rattle.season_report.proofs.decided.states_before.Given as goal

abbrev pub invariant-loop-at : goal.invariant-loop-at
invariant-loop-at l = record {
  states : l.states.items ≡ states_before l.submission l.cert l.at;
  fit : AreStates l.submission l.states.items;
  answered : All (IsAnswered l.submission.declaration) l.states.items;
  count : length l.states.items ≡ length l.submission.units;
}
