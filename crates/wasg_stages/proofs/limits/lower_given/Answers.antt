use Rattle.std.proofs.Common.{Option, sym, subst}
use Rattle.std.specs.Prelude.{OnOk}
use Rattle.capacity_windows.specs.Windows.{window_load}
use Rattle.series_model.specs.declared.times.Times.{Times}
use Rattle.series_model.specs.Stages.{movements_once_given}
use Rattle.wasg_stages.specs.Steps.{LowersBy}
use Rattle.wasg_stages.proofs.limits.lower_given.Goals as goal

pub returns-in-Some : goal.returns-in-Some
returns-in-Some c =
    subst (λ (g : Option Times). OnOk c.lower_times.result (LowersBy c.args.limits.now c.lower_times.new.limits (λ r. window_load c.args.windows.now (movements_once_given c.args.windows.now.season c.args.unit.now g) r)))
    (sym c.in-Some.is) c.lower_times.ensures
