use Rattle.wasg_stages.proofs.PartLemmas.{times-alt, IsTable-both}
use Rattle.wasg_stages.proofs.choosers.alt_of.Goals as goal

pub returns-in_ok-two-in-At-clause-alt : goal.returns-in_ok-two-in-At-clause-alt
returns-in_ok-two-in-At-clause-alt c =
    times-alt c.movement_loads.ensures c.args.declaration.now c.args.unit.now c.args.windows.now c.stop_part.new.parts.items c.stop_part-in-At.new.parts.items 1
    c.in_ok-one-in-At.one c.in_ok-two-in-At.two c.args.times c.displacement-cost.result c.in-At.arrival c.in-At.departure
    c.requires.windows c.in-At.is c.displacement-cost.ensures c.in_ok-two-in-At.ensures.grows c.in_ok-one-in-At.ensures.named
    c.in_ok-one-in-At.ensures.uses c.in_ok-two-in-At.ensures.uses

pub returns-in_ok-two-in-At-clause-table : goal.returns-in_ok-two-in-At-clause-table
returns-in_ok-two-in-At-clause-table c =
    IsTable-both c.args.declaration.now c.args.windows.now c.args.unit.now.request.period c.stop_part.new.minutes c.stop_part-in-At.new.minutes
    c.stop_part.new.parts.items c.stop_part-in-At.new.parts.items c.requires.windows
    c.in_ok-one-in-At.ensures.known c.in_ok-two-in-At.ensures.known c.in_ok-two-in-At.ensures.parts c.in_ok-two-in-At.ensures.grows
