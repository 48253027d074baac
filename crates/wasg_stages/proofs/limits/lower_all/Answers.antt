use Rattle.std.proofs.Common.{◌≡◌, ◌<◌, ◌≤◌, ◌∙◌, ap, length, rules, List}
use Rattle.std.proofs.lemmas.List.{take_all}
use Rattle.capacity_windows.specs.Windows.{window_load}
use Rattle.series_model.specs.declared.state.UnitState.{UnitState}
use Rattle.series_model.specs.Stages.{movements_given}
use Rattle.wasg_stages.proofs.LoadLemmas.{lowers-on, lowers-same, load-more}
use Rattle.wasg_stages.proofs.limits.lower_all.Goals as goal

pub loop-state-preserved : goal.loop-state-preserved
loop-state-preserved c =
    let i = c.loop-state.state-index in
    let states = c.args.states.now in
    let lt : i < length states = search rules in
    let long : length c.lower_given.new.limits ≡ length c.loop-state.limits = search rules in
    record {
      count = long ∙ c.loop-state.invariant.count;
      lowered = lowers-on c.args.limits.now c.loop-state.limits c.lower_given.new.limits _ _ _ c.loop-state.invariant.count c.loop-state.invariant.lowered c.in_ok-lower_given.ensures
          (λ r. load-more c.args.windows.now states i r lt);
    }

pub returns : goal.returns
returns c =
    let states = c.args.states.now in
    let w = c.args.windows.now in
    let past : length states ≤ c.loop-state.state-index = search rules in
    lowers-same c.args.limits.now c.loop-state.limits _ _
    (λ r. ap (λ (s : List UnitState). window_load w (movements_given w.season s) r) (take_all c.loop-state.state-index states past)) c.loop-state.invariant.lowered
