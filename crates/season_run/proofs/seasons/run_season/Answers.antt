use Rattle.std.proofs.Common.{◌≡◌, ◌+◌, ◌++◌, ◌∷◌, [], ℕ, subst, arith, List, sym, ◌∙◌, ap, append_assoc, true}
use Rattle.cert_format.specs.declared.cert.StageCert.{StageCert}
use Rattle.series_model.specs.declared.state.UnitState.{UnitState}
use Rattle.season_run.specs.Runs.{version_for}
use Rattle.season_run.specs.Steps.{AreLastStages, AreRunSoFar, IsNextStage}
use Rattle.season_run.proofs.SeasonLemmas.{so_far_start, so_far_next, so_far_finish}
use Rattle.season_run.proofs.seasons.run_season.Goals as goal

pub loop-stage-init : goal.loop-stage-init
loop-stage-init g c =
    subst (λ (l : List StageCert). AreRunSoFar c.args.submission.now c.args.budget 1 c.in_ok-states.states.items true l) (sym c.new-stages.ensures.items)
    (so_far_start c.args.submission.now c.args.budget c.in_ok-states.states.items c.in_ok-states.ensures.states c.in_ok-states.ensures.fit)

pub loop-stage-preserved : goal.loop-stage-preserved
loop-stage-preserved g c =
    let s = c.args.submission.now in
    let cert = c.in_ok-cert.cert in
    let l = c.loop-stage in
    let pushed : c.push.new.self.items ≡ l.stages.items ++ cert ∷ [] = c.in_ok-push.ensures.items in
    let next = subst (λ (st : List UnitState). IsNextStage s.declaration l.stage st c.args.budget cert l.follows) c.deref.ensures.value c.in_ok-cert.ensures.stage in
    subst (λ (certs : List StageCert). AreRunSoFar s c.args.budget (l.stage + 1) c.in_ok-states-2.states.items c.next_may_follow-follows.result certs) (sym pushed)
    (so_far_next c.one_more_stage.ensures s c.args.budget l.stage l.states.items c.in_ok-states-2.states.items l.follows c.next_may_follow-follows.result l.stages.items cert l.invariant next c.in_ok-cert.ensures.fits
    c.in_ok-states-2.ensures.after c.in_ok-states-2.ensures.fit c.next_may_follow-follows.ensures)

pub returns : goal.returns
returns g c =
    let s = c.args.submission.now in
    let l = c.loop-stage in
    let all : l.stage ≡ 3 = omega (arith, c.loop-stage-test.false, l.auto.stage-end) in
    let on = subst (λ (k : ℕ). AreRunSoFar s c.args.budget k l.states.items l.follows l.stages.items) all l.invariant in
    let last = c.in_ok-last.last in
    let two = subst (λ (st : List UnitState). AreLastStages s.declaration st c.args.budget l.follows last) c.deref-2.ensures.value c.in_ok-last.ensures in
    let stages : c.new.result ≡ l.stages.items ++ last.third ∷ last.fourth ∷ [] =
    c.new.ensures ∙ c.in_ok-push-3.ensures.items ∙ ap (λ (k : List StageCert). k ++ last.fourth ∷ []) c.in_ok-push-2.ensures.items ∙ append_assoc l.stages.items (last.third ∷ []) (last.fourth ∷ []) in
    let version : c.version_for.result ≡ version_for c.new.result =
    c.version_for.ensures ∙ ap (λ (l : List StageCert). version_for l) (c.deref-3.ensures.value ∙ sym c.new.ensures) in
    record { run = so_far_finish c.one_more_stage.ensures s c.args.budget l.states.items l.follows l.stages.items last on two c.line_counts.ensures.cert (record { version = c.version_for.result; stages = c.new.result }) version stages }
