use Rattle.std.proofs.Common.{◌≡◌, ◌∙◌, false, sym, ap, subst, List, ℕ, Option, rules}
use Rattle.cert_format.specs.Spelling.{is_tried}
use Rattle.series_model.specs.Stages.{after_stage}
use Rattle.report_lines.specs.Peaks.{AreEarlier}
use Rattle.season_report.specs.Reports.{stage_line, with_texts, stage_reasons}
use Rattle.season_report.specs.Private.{texts_of}
use Rattle.season_report.proofs.TriedLemmas.{none_more}
use Rattle.season_report.proofs.stages.put_stage.Goals as goal

pub returns-then-not-is_tried-clause-text : goal.returns-then-not-is_tried-clause-text
returns-then-not-is_tried-clause-text c =
    let d = c.args.submission.now.declaration in
    let off : is_tried c.args.block.now.mark ≡ false = search rules in
    let line = stage_line d c.args.units.now c.args.stage c.args.block.now in
    search rules

pub returns-then-not-is_tried-clause-reasons : goal.returns-then-not-is_tried-clause-reasons
returns-then-not-is_tried-clause-reasons c =
    let off : is_tried c.args.block.now.mark ≡ false = search rules in
    none_more (texts_of c.args.reasons.now) c.args.states.now
    ∙ ap (λ (o : Option (List ℕ)). with_texts (texts_of c.args.reasons.now) (stage_reasons c.args.submission.now.declaration c.args.stage c.args.states.now o)) (sym (c.requires.untried off))

pub returns-then-not-is_tried-clause-given : goal.returns-then-not-is_tried-clause-given
returns-then-not-is_tried-clause-given c =
    let off : is_tried c.args.block.now.mark ≡ false = search rules in
    subst (λ (o : Option (List ℕ)). AreEarlier c.args.submission.now.declaration (after_stage c.args.submission.now.declaration c.args.stage c.args.states.now o) c.args.given.now) (sym (c.requires.untried off)) c.requires.earlier
