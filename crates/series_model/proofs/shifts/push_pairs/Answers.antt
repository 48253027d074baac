use Rattle.std.proofs.Common.{◌+◌, ◌++◌, ◌∙◌, ap, List}
use Rattle.std.specs.List.{flat_map}
use Rattle.series_model.specs.declared.times.Times.{Times}
use Rattle.series_model.specs.Options.{pairs_at}
use Rattle.series_model.specs.Loops.{shifts_from, all_shifts}
use Rattle.series_model.proofs.RangeLemmas.{flat_step}
use Rattle.series_model.proofs.OptionLemmas.{late_pairs}
use Rattle.series_model.proofs.shifts.push_pairs.Goals as goal

pub loop-arrival-preserved : goal.loop-arrival-preserved
loop-arrival-preserved c =
    let late = late_pairs c.args.departures.now c.in-Some.arrival c.args.least c.max-first.result c.max-first.ensures in
    flat_step (pairs_at c.args.least (all_shifts c.args.departures.now)) c.loop-arrival.options.items c.push_departures.new.options.items
    (c.args.options.now.items ++ flat_map (pairs_at c.args.least (all_shifts c.args.departures.now)) (all_shifts c.args.arrivals.now))
    (shifts_from c.args.arrivals.now c.loop-arrival.from) (shifts_from c.args.arrivals.now (c.in-Some.arrival + 1)) c.in-Some.arrival
    (c.in_ok-push_departures.ensures ∙ ap (λ (xs : List Times). c.loop-arrival.options.items ++ xs) late) c.in-Some.ensures.found c.loop-arrival.invariant
