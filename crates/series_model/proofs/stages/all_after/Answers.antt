use Rattle.std.proofs.Common.{◌≡◌, ◌<◌, ℕ, length, List, Option, None, get_or, sym, ◌∙◌, ap, subst, arith, rules}
use Rattle.series_model.specs.declared.state.UnitState.{UnitState}
use Rattle.series_model.specs.Stages.{first_states, after_stage, after_stages}
use Rattle.series_model.specs.Stages.{AreFitting}
use Rattle.series_model.proofs.StepLemmas.{at_default}
use Rattle.series_model.proofs.StepLemmas.{first_states-fit, first_states-length, after_stages-on}
use Rattle.series_model.proofs.stages.all_after.Goals as goal

pub loop-choice-init : goal.loop-choice-init
loop-choice-init c =
    let d = c.args.declaration.now in
    let is = c.in_ok-states.ensures in
    record {
      stage = search rules;
      whole = ap (λ (s : List UnitState). after_stages d 1 s c.args.choices.now) is;
      fit = subst (AreFitting d) (sym is) (first_states-fit d c.args.units.now c.requires.units);
      count = ap (λ (s : List UnitState). length s) is ∙ first_states-length c.args.units.now;
    }

pub loop-choice-preserved : goal.loop-choice-preserved
loop-choice-preserved c =
    let d = c.args.declaration.now in
    let i = c.loop-choice.choice-index in
    let choices = c.args.choices.now in
    let lt : i < length choices = search rules in
    let item : c.choice-item.result ≡ get_or choices i None = c.choice-item.is ∙ at_default choices i c.choice-item.result None lt in
    let made : c.in_ok-states-2.states.items ≡ after_stage d c.loop-choice.stage c.loop-choice.states.items (get_or choices i None) =
    c.in_ok-states-2.ensures.after ∙ ap (λ (o : Option (List ℕ)). after_stage d c.loop-choice.stage c.loop-choice.states.items o) item in
    record {
      stage = omega (arith, c.loop-choice.invariant.stage);
      whole = after_stages-on d c.loop-choice.stage c.loop-choice.states.items c.in_ok-states-2.states.items (after_stages d 1 (first_states c.args.units.now) choices) choices i lt made c.loop-choice.invariant.whole;
      fit = c.in_ok-states-2.ensures.fit;
      count = c.in_ok-states-2.ensures.count ∙ c.loop-choice.invariant.count;
    }
