use Rattle.std.proofs.Common.{rules, ◌≡◌, ◌<◌, ◌≤◌, length, List, get_or, refl, sym, ◌∙◌, ap, arith}
use Rattle.std.proofs.lemmas.List.{at_drop_all, length-map}
use Rattle.cert_format.specs.declared.cert.StageCert.{StageCert}
use Rattle.cert_format.specs.Choices.{choices_of}
use Rattle.series_model.specs.declared.state.UnitState.{UnitState}
use Rattle.series_model.specs.Stages.{after_stages, states_after}
use Rattle.holding_book.proofs.StartLemmas.{first_given, stages_on}
use Rattle.holding_book.proofs.start.final_states.Goals as goal

pub loop-block-init : goal.loop-block-init
loop-block-init c =
    let s = c.args.submission.now in
    let is = c.in_ok-states.ensures.states in
    record {
      stage = refl;
      whole = ap (λ (st : List UnitState). after_stages s.declaration 1 st (choices_of c.args.cert.now)) is;
      fit = c.in_ok-states.ensures.fit;
      given = first_given s.declaration s.units c.in_ok-states.states.items is c.in_ok-states.ensures.fit.fit;
    }

pub loop-block-preserved : goal.loop-block-preserved
loop-block-preserved c =
    let s = c.args.submission.now in
    let cert = c.args.cert.now in
    let i = c.loop-block.block-index in
    let items : c.items-block-items.result.now ≡ cert.stages = c.items-block-items.ensures in
    let there : i < length c.items-block-items.result.now = search rules in
    let lt : i < length cert.stages = omega (arith, there, ap (λ (xs : List StageCert). length xs) items) in
    let is : c.block-item.result ≡ get_or cert.stages i c.block-item.result = c.block-item.is ∙ ap (λ (xs : List StageCert). get_or xs i c.block-item.result) items in
    record {
      stage = omega (arith, c.loop-block.invariant.stage);
      whole = stages_on s.declaration c.loop-block.stage c.loop-block.states.items c.in_ok-states-2.states.items (states_after s.declaration s.units (choices_of cert)) cert.stages i c.block-item.result lt is c.in_ok-states-2.ensures.after c.loop-block.invariant.whole;
      fit = c.in_ok-states-2.ensures.fit;
      given = c.in_ok-states-2.ensures.given;
    }

pub overflow_add-stage : goal.overflow_add-stage
overflow_add-stage c =
    let cert = c.args.cert.now in
    let items : c.items-block-items.result.now ≡ cert.stages = c.items-block-items.ensures in
    let there : c.loop-block.block-index < length c.items-block-items.result.now = search rules in
    let lt : c.loop-block.block-index < length cert.stages = omega (arith, there, ap (λ (xs : List StageCert). length xs) items) in
    omega (arith, c.loop-block.invariant.stage, c.requires, lt)

pub returns-clause-states : goal.returns-clause-states
returns-clause-states c =
    let s = c.args.submission.now in
    let cert = c.args.cert.now in
    let i = c.loop-block.block-index in
    let items : c.items-block-items.result.now ≡ cert.stages = c.items-block-items.ensures in
    let past : length c.items-block-items.result.now ≤ i = search rules in
    let end : length (choices_of cert) ≤ i = omega (arith, past, ap (λ (xs : List StageCert). length xs) items, length-map cert.stages (λ (b : StageCert). b.choice)) in
    sym (at_drop_all (after_stages s.declaration c.loop-block.stage c.loop-block.states.items) (choices_of cert) i end) ∙ c.loop-block.invariant.whole

pub returns-clause-few : goal.returns-clause-few
returns-clause-few c = omega (arith, c.loop-block.invariant.fit.few)
