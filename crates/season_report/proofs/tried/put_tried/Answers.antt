use Rattle.std.proofs.Common.{◌∙◌, sym, ap, subst, List, ℕ, Option}
use Rattle.std.specs.Prelude.{IfSome}
use Rattle.series_model.specs.Stages.{IsFeasibleChoice}
use Rattle.season_report.specs.Reports.{with_texts, stage_reasons}
use Rattle.season_report.specs.Private.{texts_of}
use Rattle.season_report.proofs.TriedLemmas.{none_more}
use Rattle.season_report.proofs.tried.put_tried.Goals as goal

pub put_allotted-requires-clause-choice : goal.put_allotted-requires-clause-choice
put_allotted-requires-clause-choice c =
    subst (λ (o : Option (List ℕ)). IfSome o (IsFeasibleChoice c.args.submission.now.declaration c.args.stage c.args.states.now)) c.in-Some.is c.requires.choice

pub returns-clause-reasons : goal.returns-clause-reasons
returns-clause-reasons c =
    none_more (texts_of c.args.reasons.now) c.args.states.now
    ∙ ap (λ (o : Option (List ℕ)). with_texts (texts_of c.args.reasons.now) (stage_reasons c.args.submission.now.declaration c.args.stage c.args.states.now o)) (sym c.in-None.is)
