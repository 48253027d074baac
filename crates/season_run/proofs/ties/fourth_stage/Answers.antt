use Rattle.std.proofs.Common.{List, Bool, subst, arith}
use Rattle.series_model.specs.declared.state.UnitState.{UnitState}
use Rattle.series_model.specs.Stages.{after_stage}
use Rattle.season_run.specs.Steps.{IsNextStage}
use Rattle.season_run.proofs.ties.fourth_stage.Goals as goal

pub returns-clause-fourth : goal.returns-clause-fourth
returns-clause-fourth g c = λ earlier two is.
    let d = c.args.submission.now.declaration in
    let states = c.args.states.now in
    let choice = c.args.choice.now in
    let cert = c.in_ok-cert.cert in
    let may = c.next_may_follow-may.result in
    let here = subst (λ (st : List UnitState). IsNextStage d 4 st c.args.budget cert may) c.deref.ensures.value c.in_ok-cert.ensures.stage in
    let after = subst (λ (st : List UnitState). IsNextStage d 4 st c.args.budget cert may) c.in_ok-after.ensures.after here in
    let found = subst (λ (st : List UnitState). IsNextStage d 4 (after_stage d 3 st choice) c.args.budget cert may) c.in_ok-before.ensures.items after in
    subst (λ (b : Bool). IsNextStage d 4 (after_stage d 3 states choice) c.args.budget cert b) (c.next_may_follow-may.ensures earlier (omega (arith, two)) is) found
