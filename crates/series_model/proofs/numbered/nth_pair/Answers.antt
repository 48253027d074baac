use Rattle.std.proofs.Common.{◌∙◌}
use Rattle.series_model.proofs.NumberedLemmas.{pair-found, pair-past}
use Rattle.series_model.proofs.numbered.nth_pair.Goals as goal

pub returns-in-Ok : goal.returns-in-Ok
returns-in-Ok c =
    pair-found c.args.arrivals.now c.args.departures.now c.args.least c.loop-arrival.from c.in-Some.arrival c.max-first.result c.loop-arrival.left c.in-Ok.departure c.in-Some.ensures.found c.max-first.ensures c.in-Ok.ensures
    ∙ c.loop-arrival.invariant

pub loop-arrival-preserved : goal.loop-arrival-preserved
loop-arrival-preserved c =
    pair-past c.args.arrivals.now c.args.departures.now c.args.least c.loop-arrival.from c.in-Some.arrival c.max-first.result c.loop-arrival.left c.in-Err.more c.in-Some.ensures.found c.max-first.ensures c.in-Err.ensures
    ∙ c.loop-arrival.invariant
