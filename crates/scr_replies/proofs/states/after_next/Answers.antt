use Rattle.std.proofs.Common.{sym, ◌∙◌, ap, subst, List, length}
use Rattle.std.specs.Prelude.{All}
use Rattle.series_model.specs.declared.state.UnitState.{UnitState}
use Rattle.scr_replies.specs.SeasonReplies.{IsAnswerable}
use Rattle.scr_replies.proofs.StateLemmas.{stage_answerable, stage_length}
use Rattle.scr_replies.proofs.states.after_next.Goals as goal

pub returns-clause-answerable : goal.returns-clause-answerable
returns-clause-answerable c =
    let d = c.args.submission.now.declaration in
    subst (All (IsAnswerable d.season)) (sym c.in_ok-after.ensures.after)
    (stage_answerable d c.args.stage c.args.states.items c.args.choice.now c.spelled_alternatives.ensures c.option_bounds.ensures.times c.requires.answerable)

pub returns-clause-count : goal.returns-clause-count
returns-clause-count c =
    ap (λ (s : List UnitState). length s) c.in_ok-after.ensures.after
    ∙ stage_length c.args.submission.now.declaration c.args.stage c.args.states.items c.args.choice.now
