use Rattle.desk_commands.proofs.InspectionLemmas.{step, step_as}
use Rattle.desk_commands.proofs.inspection.put_season.Goals as goal

pub returns : goal.returns
returns c =
    let text = step c.args.out.now.items c.put.new.out.items c.put-5.new.out.items _ _ c.in_ok-put.ensures (step c.put.new.out.items c.put-2.new.out.items c.put-5.new.out.items _ _ c.in_ok-put-2.ensures (step c.put-2.new.out.items c.put-3.new.out.items c.put-5.new.out.items _ _ c.in_ok-put-3.ensures (step_as c.put-3.new.out.items c.put-4.new.out.items c.put-5.new.out.items _ _ _ c.text.ensures.exact c.in_ok-put-4.ensures (c.in_ok-put-5.ensures)))) in
    text
