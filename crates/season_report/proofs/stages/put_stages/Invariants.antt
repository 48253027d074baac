use Rattle.std.proofs.Common.{◌≡◌, ◌+◌, ◌++◌, drop, length}
use Rattle.std.specs.Prelude.{All}
use Rattle.series_model.specs.Stages.{AreStates, GivenFits}
use Rattle.report_lines.specs.Peaks.{AreEarlier}
use Rattle.season_report.specs.Decisions.{states_before}
use Rattle.season_report.specs.Reports.{stages_text, reasons_after}
use Rattle.season_report.specs.Private.{IsOpen, texts_of}
use Rattle.season_report.proofs.stages.put_stages.Given as goal

abbrev pub invariant-loop-block : goal.invariant-loop-block
invariant-loop-block l = record {
  stage : l.stage ≡ l.block-index + 1;
  states : l.states.items ≡ states_before l.submission l.cert l.stage;
  fit : AreStates l.submission l.states.items;
  fresh : All (IsOpen l.stage) l.states.items;
  fits : GivenFits l.submission.declaration l.states.items;
  text : l.out.items ++ stages_text l.submission l.cert l.stage (drop l.block-index l.cert.stages) ≡ l.fn.out.items ++ stages_text l.submission l.cert 1 l.cert.stages;
  reasons : reasons_after l.submission l.cert l.stage (texts_of l.reasons) (drop l.block-index l.cert.stages) ≡ reasons_after l.submission l.cert 1 (texts_of l.fn.reasons) l.cert.stages;
  count : length l.reasons ≡ length l.fn.reasons;
  units : length l.states.items ≡ length l.submission.units;
  loads : length l.given ≡ length l.fn.given;
  earlier : AreEarlier l.submission.declaration l.states.items l.given;
}
