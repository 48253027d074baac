use Rattle.std.proofs.Common.{◌∙◌, ◌+◌, sym}
use Rattle.std.specs.List.{list_any, flat_map}
use Rattle.series_model.specs.declared.times.Times.TheVariants.{At}
use Rattle.series_model.specs.Options.{are_same, pairs_at}
use Rattle.series_model.specs.Loops.{shifts_from, all_shifts}
use Rattle.series_model.proofs.NumberedLemmas.{pair-any, any-here, any-next}
use Rattle.series_model.proofs.numbered.has_pair.Goals as goal

pub returns-then-is_with : goal.returns-then-is_with
returns-then-is_with c =
    let step = pair-any c.args.arrivals.now c.args.departures.now c.args.least c.loop-other.from c.in-Some.other c.max-first.result c.args.arrival c.args.departure c.is_with.result c.in-Some.ensures.found c.max-first.ensures c.is_with.ensures in
    let rest = list_any (are_same (At c.args.arrival c.args.departure)) (flat_map (pairs_at c.args.least (all_shifts c.args.departures.now)) (shifts_from c.args.arrivals.now (c.in-Some.other + 1))) in
    any-here c.is_with.result rest c.if-is_with.true ∙ sym step ∙ c.loop-other.invariant

pub loop-other-preserved : goal.loop-other-preserved
loop-other-preserved c =
    let step = pair-any c.args.arrivals.now c.args.departures.now c.args.least c.loop-other.from c.in-Some.other c.max-first.result c.args.arrival c.args.departure c.is_with.result c.in-Some.ensures.found c.max-first.ensures c.is_with.ensures in
    let rest = list_any (are_same (At c.args.arrival c.args.departure)) (flat_map (pairs_at c.args.least (all_shifts c.args.departures.now)) (shifts_from c.args.arrivals.now (c.in-Some.other + 1))) in
    any-next c.is_with.result rest c.if-is_with.false ∙ sym step ∙ c.loop-other.invariant
