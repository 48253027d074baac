use Rattle.std.proofs.Common.{◌≡◌, length, rules}
use Rattle.series_model.specs.Stages.{limit_left}
use Rattle.wasg_stages.proofs.LoadLemmas.{left-small, stage-other, stage-third}
use Rattle.wasg_stages.proofs.limits.lower_limits.Goals as goal

pub returns-then-stage-ne3 : goal.returns-then-stage-ne3
returns-then-stage-ne3 c =
    let old = c.args.limits.now in
    let new = c.lower_all.new.limits in
    let long : length new ≡ length old = search rules in
    let left = left-small c.args.declaration.now c.args.states.now c.args.windows.now old new c.requires.windows long c.requires.declared c.in_ok-lower_all.ensures in
    stage-other c.args.declaration.now c.args.stage c.args.states.now new c.if-stage-ne3.true left

pub leave_shares-requires-clause-limits : goal.leave_shares-requires-clause-limits
leave_shares-requires-clause-limits c =
    let old = c.args.limits.now in
    let new = c.lower_all.new.limits in
    let long : length new ≡ length old = search rules in
    (limit_left c.args.declaration.now c.args.states.now, left-small c.args.declaration.now c.args.states.now c.args.windows.now old new c.requires.windows long c.requires.declared c.in_ok-lower_all.ensures)

pub returns : goal.returns
returns c =
    let old = c.args.limits.now in
    let mid = c.lower_all.new.limits in
    let new = c.leave_shares.new.limits in
    let long : length mid ≡ length old = search rules in
    let last : length new ≡ length mid = search rules in
    let left = left-small c.args.declaration.now c.args.states.now c.args.windows.now old mid c.requires.windows long c.requires.declared c.in_ok-lower_all.ensures in
    stage-third c.args.declaration.now c.args.stage c.args.states.now mid new c.if-stage-ne3.false c.requires.share last left c.leave_shares.ensures
