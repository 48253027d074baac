use Rattle.std.proofs.Common.{◌≡◌, length, take}
use Rattle.capacity_windows.specs.Windows.{window_load}
use Rattle.series_model.specs.Stages.{movements_given}
use Rattle.wasg_stages.specs.Steps.{LowersBy}
use Rattle.wasg_stages.proofs.limits.lower_all.Given as goal

abbrev pub invariant-loop-state : goal.invariant-loop-state
invariant-loop-state l = record {
  count : length l.limits ≡ length l.fn.limits;
  lowered : LowersBy l.fn.limits l.limits (λ r. window_load l.windows (movements_given l.windows.season (take l.state-index l.states)) r);
}
