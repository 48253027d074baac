use Rattle.std.proofs.Common.{◌≡◌, ◌++◌, ◌≤◌, drop, take, length}
use Rattle.series_model.specs.Stages.{stage_units}
use Rattle.season_report.specs.Rows.{reasons_from, allotted_reasons}
use Rattle.season_report.specs.Reports.{with_texts}
use Rattle.season_report.specs.Private.{told_stage, texts_of}
use Rattle.season_report.proofs.tried.put_reasons.Given as goal

abbrev pub invariant-loop-i : goal.invariant-loop-i
invariant-loop-i l = record {
  place : drop l.place (stage_units l.tried.stage l.states) ≡ stage_units l.tried.stage (drop l.i l.states);
  texts : take l.i (texts_of l.reasons)
      ++ with_texts (drop l.i (texts_of l.reasons)) (reasons_from (told_stage l.tried l.states l.choice) l.place (drop l.i l.states) (drop l.place (told_stage l.tried l.states l.choice).times))
      ≡ with_texts (texts_of l.fn.reasons) (allotted_reasons (told_stage l.tried l.states l.choice));
  count : length l.reasons ≡ length l.fn.reasons;
  counts : l.counts ≡ l.fn.counts;
  small : l.place ≤ l.i;
}
