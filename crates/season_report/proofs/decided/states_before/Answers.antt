use Rattle.std.proofs.Common.{◌≡◌, ◌-◌, ◌<◌, ◌≤◌, ◌∙◌, sym, ap, arith, length, List, ℕ, get_or, None}
use Rattle.cert_format.specs.declared.cert.StageCert.{StageCert}
use Rattle.cert_format.specs.Choices.{choices_of}
use Rattle.series_model.specs.declared.state.UnitState.{UnitState}
use Rattle.series_model.specs.Stages.{after_stage}
use Rattle.season_report.specs.Decisions.{states_before}
use Rattle.season_report.proofs.StateLemmas.{first_all_answered, first_length, choice_of_block, before_next}
use Rattle.season_report.proofs.decided.states_before.Goals as goal

pub loop-at-init : goal.loop-at-init
loop-at-init c =
    let s = c.args.submission.now in
    let is = c.in_ok-states.ensures.states in
    record {
      states = is;
      fit = c.in_ok-states.ensures.fit;
      answered = first_all_answered s.declaration s.units c.in_ok-states.states.items is c.in_ok-states.ensures.fit.fit;
      count = ap (λ (st : List UnitState). length st) is ∙ first_length s.units;
    }

pub loop-at-preserved : goal.loop-at-preserved
loop-at-preserved c =
    let s = c.args.submission.now in
    let cert = c.args.cert.now in
    let at = c.loop-at.at in
    let items : c.items-blocks.result.now ≡ cert.stages = c.items-blocks.ensures in
    let lt : at - 1 < length cert.stages = omega (arith, c.loop-at.auto.at, c.loop-at-test.true, c.requires.few, c.requires.form.count) in
    let few : at ≤ length cert.stages = omega (arith, c.loop-at.auto.at, c.loop-at-test.true, c.requires.few, c.requires.form.count) in
    let block = c.index-blocks-at.result in
    let is : block ≡ get_or cert.stages (at - 1) block = c.index-blocks-at.is ∙ ap (λ (xs : List StageCert). get_or xs (at - 1) block) items in
    let choice : get_or (choices_of cert) (at - 1) None ≡ block.choice = choice_of_block cert (at - 1) block lt is in
    record {
      states =
          c.in_ok-states-2.ensures.after
          ∙ ap (λ (b : StageCert). after_stage s.declaration at c.loop-at.states.items b.choice) (sym c.index-blocks-at.is)
          ∙ ap (λ (st : List UnitState). after_stage s.declaration at st block.choice) c.loop-at.invariant.states
          ∙ sym (before_next c.one_more_stage.ensures s cert at block.choice c.loop-at.auto.at few choice);
      fit = c.in_ok-states-2.ensures.fit;
      answered = c.in_ok-states-2.ensures.answered;
      count = c.in_ok-states-2.ensures.count ∙ c.loop-at.invariant.count;
    }

pub returns-clause-states : goal.returns-clause-states
returns-clause-states c =
    let s = c.args.submission.now in
    let cert = c.args.cert.now in
    let end : c.loop-at.at ≡ c.args.stage = omega (arith, c.loop-at-test.false, c.loop-at.auto.at-end, c.requires.stage) in
    c.loop-at.invariant.states ∙ ap (λ (k : ℕ). states_before s cert k) end

pub returns-clause-few : goal.returns-clause-few
returns-clause-few c = c.loop-at.invariant.fit.few
