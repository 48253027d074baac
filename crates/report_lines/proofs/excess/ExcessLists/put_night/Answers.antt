use Rattle.report_lines.proofs.TextLemmas.{step, step_as}
use Rattle.report_lines.proofs.excess.ExcessLists.put_night.Goals as goal

pub returns : goal.returns
returns c =
    let text = step_as c.args.out.now.items c.put.new.out.items c.put-3.new.out.items _ _ _ c.word.ensures c.in_ok-put.ensures (step c.put.new.out.items c.put-2.new.out.items c.put-3.new.out.items _ _ c.in_ok-put-2.ensures (step c.put-2.new.out.items c.put_told.new.out.items c.put-3.new.out.items _ _ c.in_ok-put_told.ensures c.in_ok-put-3.ensures)) in
    text
