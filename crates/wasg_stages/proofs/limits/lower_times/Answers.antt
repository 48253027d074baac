use Rattle.std.proofs.Common.{◌≡◌, length, rules}
use Rattle.wasg_stages.proofs.LoadLemmas.{lowers-on, times-load}
use Rattle.wasg_stages.proofs.limits.lower_times.Goals as goal

pub returns-in_ok-lower_stop-in-At-2 : goal.returns-in_ok-lower_stop-in-At-2
returns-in_ok-lower_stop-in-At-2 c =
    let long : length c.lower_stop.new.limits ≡ length c.args.limits.now = search rules in
    lowers-on c.args.limits.now c.lower_stop.new.limits c.lower_stop-in-At.new.limits _ _ _ long c.in_ok-lower_stop-in-At.ensures c.in_ok-lower_stop-in-At-2.ensures
    (λ r. times-load c.movement_loads.ensures c.args.windows.now c.args.unit.now c.args.times c.in-At.arrival c.in-At.departure r c.in-At.is)
