use Rattle.std.specs.Prelude.{codes}
use Rattle.report_lines.proofs.TextLemmas.{step, step_as, step_number}
use Rattle.report_lines.proofs.excess.ExcessLists.put_above.Goals as goal

pub returns : goal.returns
returns c =
    let text = step_as c.args.out.now.items c.put.new.out.items c.put-2.new.out.items _ _ _ c.word.ensures c.in_ok-put.ensures (step c.put.new.out.items c.put_name.new.out.items c.put-2.new.out.items _ _ c.in_ok-put_name.ensures (step_number c.put_name.new.out.items c.put_tagged.new.out.items c.put-2.new.out.items (codes " DAYS ") _ _ _ c.from.ensures c.in_ok-put_tagged.ensures (step c.put_tagged.new.out.items c.put_told.new.out.items c.put-2.new.out.items _ _ c.in_ok-put_told.ensures c.in_ok-put-2.ensures))) in
    text
