use Rattle.std.proofs.Common.{◌≡◌, ◌<◌, length, arith, sym, ◌∙◌, rules}
use Rattle.season_days.specs.declared.declaration.Kind.TheVariants.{Arr, Dep}
use Rattle.series_model.specs.Movements.{stop_load}
use Rattle.report_lines.specs.Private.{line_load}
use Rattle.report_lines.proofs.DemandLemmas.{request_loads, both_added}
use Rattle.report_lines.proofs.demand.add_requested.Goals as goal

pub add_stop-requires-clause-room : goal.add_stop-requires-clause-room
add_stop-requires-clause-room c = λ r lt. omega (arith, c.requires.room r lt)

pub add_stop-requires-in-At-clause-room : goal.add_stop-requires-in-At-clause-room
add_stop-requires-in-At-clause-room c = λ r lt.
    let long : length c.add_stop.new.loads ≡ length c.args.loads.now = search rules in
    let there : r < length c.args.loads.now = omega (arith, lt, long) in
    omega (arith, c.requires.room r there, c.in_ok-add_stop-in-At.ensures.added r there, c.in_ok-add_stop-in-At.ensures.few r)

pub returns-in_ok-add_stop-in-At-2-clause-added : goal.returns-in_ok-add_stop-in-At-2-clause-added
returns-in_ok-add_stop-in-At-2-clause-added c =
    let k = c.args.windows.now in
    let line = c.args.unit.now.request in
    let long : length c.add_stop.new.loads ≡ length c.args.loads.now = search rules in
    both_added c.args.loads.now c.add_stop.new.loads c.add_stop-in-At.new.loads (stop_load k Arr line.arrival c.in-At.arrival line.period) (stop_load k Dep line.departure c.in-At.departure line.period) (line_load k line) long c.in_ok-add_stop-in-At.ensures.added c.in_ok-add_stop-in-At-2.ensures.added
    (λ r. request_loads c.movement_loads.ensures k line c.in-At.arrival c.in-At.departure r (sym c.in-At.is ∙ c.line_times.ensures))

pub returns-in_ok-add_stop-in-At-2-clause-few : goal.returns-in_ok-add_stop-in-At-2-clause-few
returns-in_ok-add_stop-in-At-2-clause-few c = λ r.
    let k = c.args.windows.now in
    let line = c.args.unit.now.request in
    let both = request_loads c.movement_loads.ensures k line c.in-At.arrival c.in-At.departure r (sym c.in-At.is ∙ c.line_times.ensures) in
    omega (arith, both, c.in_ok-add_stop-in-At.ensures.few r, c.in_ok-add_stop-in-At-2.ensures.few r)
