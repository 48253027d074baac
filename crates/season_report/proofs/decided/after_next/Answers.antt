use Rattle.std.proofs.Common.{◌≤◌, sym, ◌∙◌, ap, subst, List, length}
use Rattle.std.specs.Prelude.{All}
use Rattle.std.specs.Option.{ForSome}
use Rattle.season_days.specs.declared.declaration.Declaration.{Declaration}
use Rattle.season_days.specs.declared.declaration.TheConstants.{HIGHEST_REFUSAL_PRICE}
use Rattle.series_model.specs.declared.state.UnitState.{UnitState}
use Rattle.season_report.specs.Private.{IsAnswered}
use Rattle.season_report.proofs.StateLemmas.{AreOptions, stage_answered, stage_length}
use Rattle.season_report.proofs.decided.after_next.Goals as goal

pub returns-clause-answered : goal.returns-clause-answered
returns-clause-answered c =
    let d = c.args.submission.now.declaration in
    let laws : AreOptions = record { spelled = c.spelled_alternatives.ensures; near = c.option_bounds.ensures.times; small = c.option_bounds.ensures.costs } in
    let price : ForSome d.refuse (λ price. price ≤ HIGHEST_REFUSAL_PRICE) =
    subst (λ (k : Declaration). ForSome k.refuse (λ price. price ≤ HIGHEST_REFUSAL_PRICE)) c.declaration-keeps.ensures.value c.declaration-keeps.ensures.keeps.price in
    subst (All (IsAnswered d)) (sym c.in_ok-after.ensures.after)
    (stage_answered d c.args.stage c.args.states.items c.args.choice.now laws price c.requires.answered)

pub returns-clause-count : goal.returns-clause-count
returns-clause-count c =
    ap (λ (s : List UnitState). length s) c.in_ok-after.ensures.after
    ∙ stage_length c.args.submission.now.declaration c.args.stage c.args.states.items c.args.choice.now
