use Rattle.std.proofs.Common.{ap}
use Rattle.report_lines.specs.Heads.{capacity_lines}
use Rattle.report_lines.proofs.TextLemmas.{step, step_as}
use Rattle.report_lines.proofs.heads.put_head.Goals as goal

pub returns : goal.returns
returns c =
    let text = step c.args.out.now.items c.put.new.out.items c.put_night.new.out.items _ _ c.in_ok-put.ensures (step c.put.new.out.items c.put_season.new.out.items c.put_night.new.out.items _ _ c.in_ok-put_season.ensures (step c.put_season.new.out.items c.put_rules.new.out.items c.put_night.new.out.items _ _ c.in_ok-put_rules.ensures (step_as c.put_rules.new.out.items c.put_capacities.new.out.items c.put_night.new.out.items _ _ _ (ap (capacity_lines 1) c.items.ensures) c.in_ok-put_capacities.ensures c.in_ok-put_night.ensures))) in
    text
