use Rattle.std.proofs.Common.{ap, Some}
use Rattle.season_run.proofs.FloorLemmas.{push-found}
use Rattle.season_run.proofs.floors.push_floor.Goals as goal

pub returns-clause-found : goal.returns-clause-found
returns-clause-found c = λ cost pieces h.
    let kept = c.args.kept.now in
    let floor = rw (c.go.ensures.problem, c.go.ensures.vectors, c.go.ensures.ranges) at c.floor-found.ensures.floor in
    let closes = rw (c.go.ensures.problem, c.go.ensures.vectors, c.go.ensures.ranges) at c.floor-found.ensures.closes in
    push-found kept.problem kept.vectors cost pieces c.args.stated.now (record { floors = c.push.new.self; bound = Some c.least_with.result })
    c.args.ranges.now c.floor-found.result.cost c.floor-found.result.vector c.scale_of.result
    floor closes c.scale_of.ensures c.in_ok-push.ensures.items (ap Some c.least_with.ensures) h
