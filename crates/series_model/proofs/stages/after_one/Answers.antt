use Rattle.std.proofs.Common.{◌≡◌, List, Some, length, sym, ◌∙◌, ap, subst}
use Rattle.series_model.specs.declared.state.UnitState.{UnitState}
use Rattle.series_model.specs.Stages.{after_stage}
use Rattle.series_model.specs.Stages.{AreFitting}
use Rattle.series_model.proofs.StepLemmas.{after_stage-fit, after_stage-length}
use Rattle.series_model.proofs.stages.after_one.Goals as goal

pub returns-in_ok-after-in-Some-clause-fit : goal.returns-in_ok-after-in-Some-clause-fit
returns-in_ok-after-in-Some-clause-fit c =
    let d = c.args.declaration.now in
    let fit : AreFitting d c.deref.result.now = subst (AreFitting d) (sym c.deref.ensures.value) c.requires.units in
    let made : c.in_ok-after-in-Some.after.items ≡ after_stage d c.args.stage c.deref.result.now (Some c.items.result.now) = c.in_ok-after-in-Some.ensures in
    subst (AreFitting d) (sym made) (after_stage-fit d c.args.stage c.deref.result.now (Some c.items.result.now) fit)

pub returns-in_ok-after-in-Some-clause-count : goal.returns-in_ok-after-in-Some-clause-count
returns-in_ok-after-in-Some-clause-count c =
    let d = c.args.declaration.now in
    let made : c.in_ok-after-in-Some.after.items ≡ after_stage d c.args.stage c.deref.result.now (Some c.items.result.now) = c.in_ok-after-in-Some.ensures in
    ap (λ (s : List UnitState). length s) made ∙ after_stage-length d c.args.stage c.deref.result.now (Some c.items.result.now) ∙ ap (λ (s : List UnitState). length s) c.deref.ensures.value
